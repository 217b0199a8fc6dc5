use Rattle.s39_words.proofs.PrintedForms.{printed_letters, printed_short, printed_first}
use Rattle.s39_words.proofs.laws.printed_forms.Goals as goal

pub returns-clause-first : goal.returns-clause-first
returns-clause-first c = printed_first

pub returns-clause-letters : goal.returns-clause-letters
returns-clause-letters c = printed_letters

pub returns-clause-short : goal.returns-clause-short
returns-clause-short c = printed_short
