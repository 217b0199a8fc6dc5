use Rattle.std.proofs.Common.{arith}
use Rattle.s39_split.specs.Sharing.{most_shares}
use Rattle.s39_split.proofs.SplitLaws.{splits_take_the_bytes_needed}
use Rattle.s39_secrecy.proofs.KnownShares.{have_fitting}
use Rattle.s39_secrecy.proofs.laws.known_shares_fit_every_secret.Goals as goal

pub returns : goal.returns
returns c threshold secret key known several few of_secret of_key key_length number distinct indices lengths bytes =
    let have = have_fitting threshold secret key known (record {
      several = omega arith;
      few = few;
      key_length = key_length;
      number = number;
      distinct = distinct;
      indices = indices;
      lengths = lengths;
    }) of_secret of_key bytes in
    (have.random, have.fit, splits_take_the_bytes_needed threshold most_shares secret have.random have.fit.shares have.fit.split, have.bytes, have.only)
