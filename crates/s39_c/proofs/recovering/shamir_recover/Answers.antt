use Rattle.s39_kdf.specs.declared.secret_form.SecretForm.TheVariants.{Digits}
use Rattle.s39_c.proofs.Outputs.{recovers_created}
use Rattle.s39_c.proofs.recovering.shamir_recover.Goals as goal

pub returns-clause-created : goal.returns-clause-created
returns-clause-created c =
    recovers_created (c.created_backups_recover.ensures Digits) c.args.max_exponent c.args.passphrase.now c.args.lines.now c.args.expected.now
    c.args.secret.now c.recover_answer-answer.new.secret c.recover_answer-answer.result c.recover_answer-answer.ensures
