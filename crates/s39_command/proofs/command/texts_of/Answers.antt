use Rattle.std.proofs.Common.{◌∙◌}
use Rattle.clap.specs.Words.{found_of}
use Rattle.clap.proofs.WalkLemmas.{first_value-rows}
use Rattle.s39_command.proofs.command.texts_of.Goals as goal

pub returns : goal.returns
returns c =
    let f = found_of c.args.options.now in
    record {
      secret_is = c.get_str.ensures ∙ first_value-rows f c.args.secret.now;
      passphrase_is = c.get_str-2.ensures ∙ first_value-rows f c.args.passphrase.now;
    }
