-- Values of a command that stand in files, or in the first lines of the input.
use Rattle.std.specs.Prelude.{◌≡◌, ◌≢◌, ◌⊎◌, ◌<◌, ◌≤◌, ◌+◌, ℕ, List, [], ◌∷◌, All, Option, Some, None, IfSome, Result, Ok, bytes_eq, codes, if◌then◌else◌, length, take, unwrap_or}
use Rattle.std.specs.Borrow.{Bor}
use Rattle.std.specs.Io.BufRead.{ends_with_byte, strip_last, take_through}
use Rattle.std.specs.Io.KnownBytes.{Consumes, IsAtEnd, Keeps}
use Rattle.clap.specs.Words.{Text}
use Rattle.s39_words.specs.declared.ShareFields.{ShareFields}
use Rattle.s39_words.specs.Reading.{reading}
use Rattle.s39_backup.specs.Created.{most_random}
use Rattle.s39_command.specs.Command.{text_in}
use Rattle.s39_command.specs.Jobs.{or_empty}
use Rattle.s39_command.specs.declared.command.Texts.{Texts}
use Rattle.s39_cli.specs.declared.values.BadValue.{BadValue}
use Rattle.s39_cli.specs.declared.values.BadValue.TheVariants.{TooLong, Mnemonic}
use Rattle.s39_cli.specs.declared.values.Until.{Until}
use Rattle.s39_cli.specs.declared.values.Until.TheVariants.{End, LineEnd}

-- the most bytes of a value
abbrev pub longest_value : ℕ
longest_value = 1024

-- the bytes without a line feed at their end, and without a carriage return before it
abbrev pub without_line_end : List ℕ → List ℕ
without_line_end bytes = if ends_with_byte 10 bytes then strip_last 13 (strip_last 10 bytes) else bytes

-- the part of the bytes in which a value stands: all of them, or the first line with its end
abbrev pub part : Until → List ℕ → List ℕ
part End bytes = bytes
part LineEnd bytes = take_through 10 bytes

-- the text is a mnemonic: it spells a share
abbrev pub IsMnemonic : Text → Type 0
IsMnemonic text = (share : ShareFields) × (reading text ≡ Ok share)

-- The value stands in the bytes that are read, without the end of their line. They are that part of the reader's bytes, if it tells
-- them, and none after it is read. A mnemonic is no value.
pub record IsValueIn (until : Until) (told left : Option (List ℕ)) (value : List ℕ) : Type 0 where
  pub bytes : List ℕ
  pub read : Consumes told left bytes
  pub all : IfSome told (λ known. bytes ≡ part until known)
  pub value_is : value ≡ without_line_end bytes
  pub fits : length value ≤ longest_value
  pub no_mnemonic : IsMnemonic value → ⊥

-- this is no value, for this cause: it is longer than a value may be, or else it is a mnemonic
abbrev pub IsBad : BadValue → List ℕ → Type 0
IsBad TooLong text = longest_value < length text
IsBad Mnemonic text = (length text ≤ longest_value) × IsMnemonic text

-- what stands in that part of the reader's bytes is no value, for this cause, if the reader tells them
abbrev pub HoldsBad : BadValue → Until → Option (List ℕ) → Type 0
HoldsBad bad until told = IfSome told (λ known. IsBad bad (without_line_end (part until known)))

-- the name of the input
abbrev pub input_name : Text
input_name = codes "-"

-- the name of the terminal from which a person runs the program
abbrev pub terminal_name : Text
terminal_name = codes "/dev/tty"

-- where the value in the file of a name ends: with the first line that is typed, if the file is that terminal
abbrev pub end_in : Text → Until
end_in name = if bytes_eq name terminal_name then LineEnd else End

-- the bytes of the file with a name, or `None` if contracts can't name them
abbrev pub Told : Type 0
Told = Text → Option (List ℕ)

-- the value stands in the bytes of the file of this name, without the end of their line
abbrev pub IsValueOf : Told → Text → List ℕ → Type 0
IsValueOf told name value = (left : Option (List ℕ)) × IsValueIn (end_in name) (told name) left value

module _ {R : Type 0} (told : Told) (remaining : R → Option (List ℕ)) where
  -- What is read for the file of a value, by two states of the input's reader. With no file it is nothing. The name of the input
  -- stands for its first line; for another file the value is that of its bytes, and the input isn't read.
  abbrev pub TakesValue : Option (Bor Text) → Option (List ℕ) → R → R → Type 0
  TakesValue None value old new = (value ≡ None) × (new ≡ old)
  TakesValue (Some file) value old new = (read : List ℕ) × (value ≡ Some read)
      × (((file.now ≡ input_name) × IsValueIn LineEnd (remaining old) (remaining new) read)
      ⊎ ((file.now ≢ input_name) × (new ≡ old) × IsValueOf told file.now read))

  -- what is read for both files: first for the secret's, and then for that of the passphrase
  abbrev pub TakesValues : Texts → Option (List ℕ) → Option (List ℕ) → R → R → Type 0
  TakesValues files secret passphrase old new =
      (between : R) × TakesValue files.secret secret old between × TakesValue files.passphrase passphrase between new

-- the text of a value: what was read, or else the given text, or the empty one if there is none
abbrev pub text_of : Option (List ℕ) → Option (Bor Text) → Text
text_of read given = unwrap_or read (or_empty (text_in given))

-- the name is that of the input
abbrev pub IsInput : Option (Bor Text) → Type 0
IsInput None = ⊥
IsInput (Some file) = file.now ≡ input_name

-- some file is named, and not all of them are read; the input is read only if it is one of them
abbrev pub LacksValue : {R : Type 0} → Texts → R → R → Type 0
LacksValue files old new = (((files.secret ≡ None) × (files.passphrase ≡ None)) → ⊥)
    × ((new ≡ old) ⊎ (IsInput files.secret ⊎ IsInput files.passphrase))

-- a file of this name, which isn't that of the input, holds what is no value, for this cause
abbrev pub IsBadFile : BadValue → Told → Option (Bor Text) → Type 0
IsBadFile bad told None = ⊥
IsBadFile bad told (Some file) = (file.now ≢ input_name) × HoldsBad bad (end_in file.now) (told file.now)

module _ {R : Type 0} (told : Told) (remaining : R → Option (List ℕ)) where
  -- this is the name of the input, whose first line holds what is no value, for this cause
  abbrev pub IsBadLine : BadValue → Option (Bor Text) → R → Type 0
  IsBadLine bad file reader = IsInput file × HoldsBad bad LineEnd (remaining reader)

  -- there is no value, for this cause, in a file, in the input's first line, or in the line behind the secret
  abbrev pub HasBad : BadValue → Texts → R → Type 0
  HasBad bad files old = (IsBadFile bad told files.secret ⊎ IsBadFile bad told files.passphrase)
      ⊎ (IsBadLine bad files.secret old
      ⊎ ((between : R) × ((secret : Option (List ℕ)) × TakesValue told remaining files.secret secret old between) × IsBadLine bad files.passphrase between))

  -- the same for some cause
  abbrev pub HasSomeBad : Texts → R → Type 0
  HasSomeBad files old = (bad : BadValue) × HasBad bad files old

-- ---- random bytes

-- the most random bytes that are read of a file: one more than a backup takes at most
abbrev pub most_drawn : ℕ
most_drawn = most_random + 1

-- these are the first bytes of a file, as many as are read at most; line feeds are bytes like others
abbrev pub AreDrawn : Option (List ℕ) → List ℕ → Type 0
AreDrawn told random = IfSome told (λ known. random ≡ take most_drawn known)

-- ---- within the program; no public contract cites this

-- the value is in the file of this name, and there is none without a name, and with that of the input
abbrev pub IsInFile : Told → Option (Bor Text) → Option (List ℕ) → Type 0
IsInFile told None value = value ≡ None
IsInFile told (Some file) value = ((file.now ≡ input_name) × (value ≡ None))
    ⊎ ((file.now ≢ input_name) × ((read : List ℕ) × (value ≡ Some read) × IsValueOf told file.now read))

-- a byte is read, or none at the end
abbrev pub TakesByte : Option (List ℕ) → Option (List ℕ) → Option ℕ → Type 0
TakesByte told left None = Keeps told left × IsAtEnd left
TakesByte told left (Some byte) = Consumes told left (byte ∷ [])

-- these bytes are the part of the reader's, or as much of it as this room takes
pub record IsPart (until : Until) (room : ℕ) (told left : Option (List ℕ)) (bytes : List ℕ) : Type 0 where
  pub read : Consumes told left bytes
  pub all : IfSome told (λ known. bytes ≡ take room (part until known))
  pub fits : length bytes ≤ room

-- the part hasn't ended with these bytes: no line ends in them, if it is a line
abbrev pub IsOpen : Until → List ℕ → Type 0
IsOpen End bytes = Unit {0}
IsOpen LineEnd bytes = All (λ byte. byte ≢ 10) bytes

-- this number of bytes of the part are read, and it hasn't ended
pub record IsBegunPart (until : Until) (count : ℕ) (told left : Option (List ℕ)) (bytes : List ℕ) : Type 0 where
  pub read : Consumes told left bytes
  pub unended : IsOpen until bytes
  pub counted : length bytes ≡ count
