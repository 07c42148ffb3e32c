-- The readers of a pack leave an end of what they are given. Assumes nothing.
use Rattle.strings.specs.Reading.{got, and_read, read_byte, read_number, read_text, read_many}
use Rattle.strings.proofs.Readers.{Ends, then_ends, got_ends, byte_ends, number_ends, text_ends, many_ends}
use Rattle.pack.specs.Packs.{guess, read_names, read_guess, read_guesses, read_rule, read_list}
use Rattle.rule_lines.specs.Rules.{rule}

pub names_ends : Ends read_names
unfolding read_names
names_ends = then_ends read_byte (λ n r. read_many read_text n r) byte_ends (λ n. many_ends read_text text_ends n)

pub guess_ends : Ends read_guess
unfolding read_guess
guess_ends =
    then_ends read_byte (λ a r. and_read (read_number 4 r) (λ m q. and_read (read_text q) (λ p t. got (guess a m p) t))) byte_ends
    (λ a. then_ends (read_number 4) (λ m q. and_read (read_text q) (λ p t. got (guess a m p) t)) (number_ends 4)
    (λ m. then_ends read_text (λ p t. got (guess a m p) t) text_ends (λ p. got_ends (guess a m p))))

pub guesses_ends : Ends read_guesses
unfolding read_guesses
guesses_ends = then_ends (read_number 2) (λ n r. read_many read_guess n r) (number_ends 2) (λ n. many_ends read_guess guess_ends n)

pub rule_ends : Ends read_rule
unfolding read_rule
rule_ends =
    then_ends read_text (λ p a. and_read (read_text a) (λ f b. and_read (read_text b) (λ r c. and_read (read_text c) (λ e d. got (rule p f r e) d)))) text_ends
    (λ p. then_ends read_text (λ f b. and_read (read_text b) (λ r c. and_read (read_text c) (λ e d. got (rule p f r e) d))) text_ends
    (λ f. then_ends read_text (λ r c. and_read (read_text c) (λ e d. got (rule p f r e) d)) text_ends
    (λ r. then_ends read_text (λ e d. got (rule p f r e) d) text_ends (λ e. got_ends (rule p f r e)))))

pub list_ends : Ends read_list
unfolding read_list
list_ends = then_ends (read_number 2) (λ n r. read_many read_rule n r) (number_ends 2) (λ n. many_ends read_rule rule_ends n)
