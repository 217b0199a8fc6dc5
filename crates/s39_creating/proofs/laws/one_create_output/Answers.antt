use Rattle.s39_creating.proofs.Runs.OneCreate.{create_once, some_output}
use Rattle.s39_creating.proofs.laws.one_create_output.Goals as goal

pub returns-clause-once : goal.returns-clause-once
returns-clause-once c =
    create_once
    c.one_creation.ensures.once
    c.passphrases_are_printable_or_not.ensures.none c.one_printed_form.ensures

pub returns-clause-exists : goal.returns-clause-exists
returns-clause-exists c = λ asked input plan secret bytes.
    some_output c.every_share_has_a_printed_form.ensures asked input
    (c.one_creation.ensures.exists asked input.bytes plan secret bytes)
    (λ shares creates.
    c.created_shares_are_shares.ensures asked input.bytes shares plan
    creates.1 secret bytes creates.3)
