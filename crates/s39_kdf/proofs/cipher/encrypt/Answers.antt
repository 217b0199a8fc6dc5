use Rattle.s39_kdf.proofs.Rounds.{result_only}
use Rattle.s39_kdf.proofs.cipher.encrypt.Goals as goal

pub returns-clause-value : goal.returns-clause-value
returns-clause-value c = record {
  h0 = c.halves.result.0.now;
  h1 = c.halves.result.1.now;
  h2 = c.round-h2.result.items;
  h3 = c.round-h3.result.items;
  h4 = c.round-h4.result.items;
  h5 = c.round-h5.result.items;
  halves = c.halves.ensures.whole;
  same_length = c.halves.ensures.same_length;
  round_0 = cc;
  round_1 = cc;
  round_2 = cc;
  round_3 = cc;
  exchanged = cc;
}

pub returns-clause-only : goal.returns-clause-only
returns-clause-only c = λ encrypted e.
    result_only c.args.passphrase.now c.args.params c.args.secret.now.items encrypted c.join.result.items e (returns-clause-value c)
