use Rattle.s39_words.proofs.WordTable.{length-word_list, lengths, letters, ascending}
use Rattle.s39_words.proofs.laws.word_list_ascends.Goals as goal

pub returns : goal.returns
returns c = record { count = length-word_list; lengths = lengths; letters = letters; ascending = ascending }
