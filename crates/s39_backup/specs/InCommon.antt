-- Shares that backups of two secrets have in common.
use Rattle.std.specs.Prelude.{◌≡◌, ℕ, List, Contains}
use Rattle.s39_words.specs.declared.share.ShareFields.{ShareFields}
use Rattle.s39_set.specs.Names.{Name}
use Rattle.s39_set.specs.ShareSet.{name_of}
use Rattle.s39_backup.specs.Created.{Asked}

-- the same passphrase, plan and options, with another secret
abbrev pub for_secret : List ℕ → Asked → Asked
for_secret other asked = record asked { secret = other }

-- both have the same share with this name
pub record HaveTheShare (shares others : List ShareFields) (name : Name) : Type 0 where
  pub share : ShareFields
  pub name_is : name_of share ≡ name
  pub in_shares : Contains shares share
  pub in_others : Contains others share
