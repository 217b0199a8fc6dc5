use Rattle.s39_kdf.proofs.Rounds.{secrets_have_one_encryption, texts_have_one_secret}
use Rattle.s39_kdf.proofs.laws.one_encryption.Goals as goal

pub returns : goal.returns
returns c = record {
  of_secrets = secrets_have_one_encryption;
  of_texts = texts_have_one_secret;
}
