use Rattle.mj_words.proofs.PlainLaws.{seat, marked_seat, number, marked_number}
use Rattle.mj_words.proofs.laws.plain_words_are_values.Goals as goal

pub returns : goal.returns
returns c = record { seats = seat; marked_seats = marked_seat; numbers = number; marked_numbers = marked_number }
