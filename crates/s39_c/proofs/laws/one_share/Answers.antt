use Rattle.std.proofs.Common.{length, sym, ◌∙◌}
use Rattle.s39_words.specs.Reading.{Reads}
use Rattle.s39_c.specs.Answers.{done, word_refused}
use Rattle.s39_c.specs.Parsing.{header_of}
use Rattle.s39_c.proofs.InSteps.{gives_as_once, filled_once}
use Rattle.s39_c.proofs.laws.one_share.Goals as goal

pub returns : goal.returns
returns c = λ line header first second old.
    filled_once (Reads line) word_refused _ old header_of header (λ read other is also. sym is ∙ also)
    (λ fields _. gives_as_once (done (length fields.value.items)) fields.value.items old) first second
