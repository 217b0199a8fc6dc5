use Rattle.std.proofs.Common.{◌∙◌, subst}
use Rattle.s39_cli.specs.Said.{Says}
use Rattle.s39_cli.proofs.FileLine.{file_line_is}
use Rattle.s39_cli.proofs.telling.say_of_file.Goals as goal

pub returns : goal.returns
returns g c =
    let line = file_line_is c.args.name.now c.args.reason.now _ _ _ _ _ _ c.new.ensures.text c.and_str.ensures.within c.and_str-2.ensures.within
    c.and_str-3.ensures.within c.and_str-4.ensures.within c.and_str-text.ensures.within in
    subst (Says g.E.Write.contents c.args.person.now c.say.new.self) (c.as_bytes.ensures.value ∙ c.as_str.ensures.value ∙ line) c.say.ensures.said
