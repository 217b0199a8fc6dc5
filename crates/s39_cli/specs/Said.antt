-- What the program says on standard error.
use Rattle.std.specs.Prelude.{◌≡◌, ◌≢◌, ◌⊎◌, ◌≤◌, ◌++◌, ◌-◌, ◌/◌, ◌%◌, ◌^◌, ◌==◌, ◌&&◌, ◌||◌, ℕ, zero, suc, Bool, true, false, not, List, [], Option, Some, None, Result, Ok, Err, is_some, is_none, bytes_eq, codes}
use Rattle.std.specs.Prelude.{if◌then◌else◌, length, min, nat_le, nat_lt, string_bytes}
use Rattle.std.specs.Borrow.{Bor}
use Rattle.std.specs.Int.{is_power_of_two}
use Rattle.std.specs.Fmt.{decimal}
use Rattle.std.specs.Fmt.Cut.{cut_to}
use Rattle.std.specs.Io.KnownBytes.{Appends}
use Rattle.clap.specs.Words.{Text, takes}
use Rattle.s39_command.specs.declared.command.Call.{Call}
use Rattle.s39_command.specs.declared.command.Job.{Job}
use Rattle.s39_command.specs.declared.command.Job.TheVariants.{Create, Recover, Drill, Reissue, Resplit}
use Rattle.s39_command.specs.declared.command.BadValues.{BadValues}
use Rattle.s39_command.specs.declared.command.BadValues.TheVariants.{NoSecret}
use Rattle.s39_command.specs.declared.command.NoJob.{NoJob}
use Rattle.s39_command.specs.declared.command.NoJob.TheVariants.{Help, Refused, Values}
use Rattle.s39_command.specs.declared.command.NoJob.TheVariants as no_job
use Rattle.s39_command.specs.declared.command.Texts.{Texts}
use Rattle.s39_command.specs.Command.{AsksForText, GivesBadValues, GivesCall, bad_text, shamir_app, text_in}
use Rattle.s39_backup.specs.Plan.{PlanForm}
use Rattle.s39_backup.specs.declared.plan_error.PlanError.TheVariants.{BadPlan}
use Rattle.s39_words.specs.declared.ShareFields.{ShareFields}
use Rattle.s39_set.specs.Counting.{quorum_count}
use Rattle.s39_set.specs.Listing.{IsListing}
use Rattle.s39_set.specs.Names.{Names}
use Rattle.s39_input.specs.declared.fault.Fault.{Fault}
use Rattle.s39_input.specs.Accepted.{read_as}
use Rattle.s39_input.specs.Input.{Input, whole}
use Rattle.s39_reading.specs.Exponent.{exponent_of}
use Rattle.s39_cli.specs.declared.person.Person.{Person}
use Rattle.s39_cli.specs.declared.person.Terminals.{Terminals}
use Rattle.s39_cli.specs.declared.runner.Ended.{Ended}
use Rattle.s39_cli.specs.declared.runner.Ended.TheVariants.{With, NoMemory}
use Rattle.s39_cli.specs.declared.work.NoWork.{NoWork}
use Rattle.s39_cli.specs.declared.work.NoWork.TheVariants.{Secret, Plan, Memory}
use Rattle.s39_cli.specs.declared.work.Work.{Work}
use Rattle.s39_cli.specs.declared.work.Work.TheVariants as work
use Rattle.s39_cli.specs.Ending.{AreAllOf, IsTyped, OnEnd}
use Rattle.s39_cli.specs.Outcome.{IsCursor, IsReady, status_of_refusal}
use Rattle.s39_cli.specs.declared.values.BadValue.{BadValue}
use Rattle.s39_cli.specs.declared.values.BadValue.TheVariants.{TooLong, Mnemonic}
use Rattle.s39_cli.specs.Values.{HasBad, TakesValues, Told, input_name, terminal_name}

module _ {E : Type 0} (contents : E → Option (List ℕ)) where
  -- This text is said to a person at the same terminals. If the device has taken all that was said, it had taken all before, and the
  -- text follows what it held. If the text is empty, nothing has changed.
  pub record Says (old new : Person E) (text : List ℕ) : Type 0 where
    pub same_terminals : new.terminals ≡ old.terminals
    pub taken : new.is_whole ≡ true → (old.is_whole ≡ true) × Appends (contents old.device) (contents new.device) text
    pub silent : text ≡ [] → (new.device ≡ old.device) × (new.is_whole ≡ old.is_whole)

-- the line, if this holds
abbrev pub line_if : Bool → Text → Text
line_if holds line = if holds then line else []

-- ---- the lines

-- said before a secret is typed
abbrev pub secret_asked_line : Text
secret_asked_line = codes "shamir: type the digits of the secret, then press Enter: they are shown as they are typed\n"

-- said before a passphrase is typed
abbrev pub passphrase_asked_line : Text
passphrase_asked_line =
    codes "shamir: type the passphrase, then press Enter: it is shown as it is typed (docs/SCRIPTS.md says how to hide it)\n"

-- said before mnemonics are typed
abbrev pub typing_line : Text
typing_line = codes "shamir: type a mnemonic on each line, then press Ctrl-D on an empty line\n"

-- said of secrets that another passphrase would change
abbrev pub bare_line : Text
bare_line = codes "shamir: no passphrase was used: a backup with one gives another secret here\n"

-- said after a text that has another form than a plan is refused
abbrev pub plan_form_line : Text
plan_form_line = codes "shamir: a plan is TofN for one group, or GT/T1ofN1,T2ofN2,.. for several, as 2of3 or 2/2of3,1of1,1of1\n"

-- said after a creation without a secret is refused
abbrev pub new_secret_line : Text
new_secret_line = codes "shamir: shamir-papers new asks step by step; to draw a new secret by hand: od -An -v -tx1 -N16 /dev/urandom | tr -dc 0-9a-f | install -m 600 /dev/stdin /dev/shm/secret\n"

-- said for random bytes that would be typed
abbrev pub typed_line : Text
typed_line = codes "shamir: random bytes aren't typed: draw them, as with head -c N /dev/urandom\n"

-- said of what follows a refusal at a terminal
abbrev pub rest_line : Text
rest_line = codes "shamir: the rest of the input is dropped: end it with Ctrl-D\n"

-- said for a secret that isn't hexadecimal
abbrev pub secret_line : Text
secret_line = codes "shamir: master secret isn't hexadecimal\n"

-- said for arguments that are no texts
abbrev pub no_text_line : Text
no_text_line = codes "shamir: the arguments aren't UTF-8\n"

-- said for want of memory
abbrev pub memory_line : Text
memory_line = codes "shamir: out of memory\n"

-- the most bytes of a file's name that are said
abbrev pub longest_name : ℕ
longest_name = 4095

-- the most bytes that are said of why a file's value isn't read
abbrev pub longest_reason : ℕ
longest_reason = 128

-- Said if the value of the file of this name isn't read, for this reason. What is longer is cut, and then ends in dots.
abbrev pub file_line : Text → Text → Text
file_line name reason =
    codes "shamir: " ++ cut_to longest_name name ++ codes ": " ++ cut_to longest_reason reason ++ codes "\n"

-- why a text is no value
abbrev pub reason_of : BadValue → Text
reason_of TooLong = codes "the value has more than 1024 bytes"
reason_of Mnemonic = codes "this is a mnemonic, and neither a secret nor a passphrase"

-- said if what the file of this name holds is no value, for this cause
abbrev pub bad_line : Text → BadValue → Text
bad_line name bad = file_line name (reason_of bad)

-- the greatest number of quorums that is told
abbrev pub most_told : ℕ
most_told = 2 ^ 64 - 1

-- said of a set that is drilled: how many quorums it has, or that it has at least the greatest number that is told
abbrev pub count_line : ℕ → Text
count_line count = (if nat_lt count most_told then codes "shamir: number of quorums: " else codes "shamir: number of quorums: at least ")
    ++ decimal (min count most_told) ++ codes "\n"

-- about how many seconds the iterations of an exponent take
abbrev pub seconds_of : ℕ → ℕ
seconds_of exponent = 2 ^ exponent / 160

-- the least exponent of which the seconds are said
abbrev pub least_slow : ℕ
least_slow = 9

-- said of a set with such an exponent
abbrev pub seconds_line : ℕ → Text
seconds_line exponent = codes "shamir: deciphering a secret takes some " ++ decimal (seconds_of exponent) ++ codes " seconds\n"

-- all that is said of a set that is drilled
abbrev pub set_lines : List ShareFields → Text
set_lines set = count_line (quorum_count set) ++ line_if (nat_le least_slow (exponent_of set)) (seconds_line (exponent_of set))

-- said while quorums are listed: how many of them are
abbrev pub listed_line : ℕ → Text
listed_line count = codes "shamir: quorums listed: " ++ decimal count ++ codes "\n"

-- ---- when they are said

-- mnemonics are typed: the input is a terminal, and the command reads mnemonics
abbrev pub types_mnemonics : Bool → Job → Bool
types_mnemonics at_terminal (Create plan exponent extendable) = false
types_mnemonics at_terminal _ = at_terminal

-- a person looks on: types the input, or sees the output or the messages
abbrev pub is_attended : Terminals → Bool
is_attended terminals = terminals.input || (terminals.output || terminals.errors)

-- a person is asked for the value in this file: it is the first line of the input, which is a terminal, or the file is the terminal, and a
-- person looks on
abbrev pub types_value : Terminals → Option (Bor Text) → Bool
types_value terminals (Some file) =
    if bytes_eq file.now input_name then terminals.input else bytes_eq file.now terminal_name && is_attended terminals
types_value terminals None = false

-- all that is said before the values in these files are read, in their order
abbrev pub asking_lines : Terminals → Texts → Text
asking_lines terminals files = line_if (types_value terminals files.secret) secret_asked_line
    ++ line_if (types_value terminals files.passphrase) passphrase_asked_line

-- a person is told how many quorums a drill has listed: messages go to a terminal, and the output doesn't
abbrev pub shows_progress : Terminals → Bool
shows_progress terminals = terminals.errors && not terminals.output

-- the command recovers secrets, and no fingerprint is expected
abbrev pub recovers_any : Job → Bool
recovers_any (Recover form expected) = is_none expected
recovers_any (Drill after limit form expected) = is_none expected
recovers_any _ = false

-- no passphrase is given, neither in the words nor in a file, and the command recovers secrets without a fingerprint to tell
abbrev pub is_bare : Call → Bool
is_bare call = if is_some call.given.passphrase then false else if is_some call.files.passphrase then false else recovers_any call.job

-- a person is told how to draw a secret: one looks on, and no secret is given
abbrev pub tells_of_drawing : Bool → BadValues → Bool
tells_of_drawing attended NoSecret = attended
tells_of_drawing attended _ = false

-- all that is said of values that are missing or given twice
abbrev pub said_of_values : Bool → BadValues → Text
said_of_values attended bad = bad_text bad ++ line_if (tells_of_drawing attended bad) new_secret_line

-- the greatest number of listed quorums that is told as a power of two
abbrev pub most_doubled : ℕ
most_doubled = 2 ^ 20

-- it is told that so many quorums are listed: each power of two up to 2^20, and then each multiple of that
abbrev pub is_told : ℕ → Bool
is_told count = if nat_lt count most_doubled then is_power_of_two count else count % most_doubled == 0

-- all that is said while so many quorums are listed
abbrev pub listed_lines : ℕ → Text
listed_lines zero = []
listed_lines (suc n) = listed_lines n ++ line_if (is_told (suc n)) (listed_line (suc n))

-- said of no passphrase, to a person who looks on
abbrev pub none_line : Terminals → Bool → Text
none_line terminals bare = line_if (is_attended terminals && bare) bare_line

module _ {E : Type 0} (contents : E → Option (List ℕ)) where
  -- what is said of a set before it is listed, to a person who looks on
  abbrev pub SaysSet : List ShareFields → Person E → Person E → Type 0
  SaysSet set old new = Says contents old new (line_if (is_attended old.terminals) (set_lines set))

  -- what is said once so many quorums are listed
  abbrev pub SaysCount : ℕ → Person E → Person E → Type 0
  SaysCount count old new = Says contents old new (line_if (shows_progress old.terminals && is_told count) (listed_line count))

  -- what is said of no passphrase, before a secret is written
  abbrev pub SaysOfNone : Person E → Person E → Type 0
  SaysOfNone old new = Says contents old new (none_line old.terminals old.is_bare)

-- all that is said of a set while so many of its quorums are listed
abbrev pub drill_lines : Terminals → List ShareFields → ℕ → Text
drill_lines terminals set n = line_if (is_attended terminals) (set_lines set) ++ line_if (shows_progress terminals) (listed_lines n)

-- what is said of the input of a drill, which starts after these names, or at the first quorum: of its set and of all listed quorums
pub record AreDrillLines (terminals : Terminals) (after : Option Names) (limit : ℕ) (input : Input) (text : Text) : Type 0 where
  pub set : List ShareFields
  pub listed : List Names
  pub read : read_as input ≡ Ok set
  pub listing : IsListing set after limit listed
  pub text_is : text ≡ drill_lines terminals set (length listed)

-- what is said of the input of a job
abbrev pub AreInputLines : Terminals → Job → Input → Text → Type 0
AreInputLines terminals (Drill after limit form expected) input text =
    (cursor : Option Names) × IsCursor after cursor × AreDrillLines terminals cursor limit input text
AreInputLines terminals _ input text = text ≡ []

-- what is said once the input is read: what is said of it, and that no passphrase was used if the command is bare
abbrev pub AreLateLines : Terminals → Bool → Job → Input → Text → Type 0
AreLateLines terminals bare job input text =
    (lines : Text) × AreInputLines terminals job input lines × (text ≡ lines ++ none_line terminals bare)

-- all that is said if the exit status is 0, for the input behind the values
abbrev pub AreLines : Terminals → Call → Input → Text → Type 0
AreLines terminals call input text = (late : Text) × AreLateLines terminals (is_bare call) call.job input late
    × (text ≡ asking_lines terminals call.files
    ++ (line_if (types_mnemonics terminals.input call.job) typing_line ++ late))

-- what is said before a device fails: of the set that is drilled and of some quorums, or that no passphrase was used; or nothing
abbrev pub AreSomeLines : Terminals → Bool → Job → Text → Type 0
AreSomeLines terminals bare (Drill after limit form expected) text =
    (text ≡ []) ⊎ ((set : List ShareFields) × (n : ℕ) × (text ≡ drill_lines terminals set n))
AreSomeLines terminals bare (Recover form expected) text = (text ≡ []) ⊎ (text ≡ none_line terminals bare)
AreSomeLines terminals bare _ text = text ≡ []

-- ---- what is said with each exit status

-- the most bytes of a refusal's message
abbrev pub longest_message : ℕ
longest_message = 104

-- this comes to pass only if that may
abbrev pub IsWithin : Bool → Bool → Type 0
IsWithin comes may = comes ≡ true → may ≡ true

-- the text of the job's plan has another form than a plan
abbrev pub HasFormlessPlan : Job → Type 0
HasFormlessPlan (Create plan exponent extendable) = ¬ PlanForm plan.now
HasFormlessPlan (Reissue plan names) = ¬ PlanForm plan.now
HasFormlessPlan (Resplit plan file) = ¬ PlanForm plan.now
HasFormlessPlan _ = ⊥

-- a file of a value has this name
abbrev pub IsNamedIn : Texts → Text → Type 0
IsNamedIn files name = (text_in files.secret ≡ Some name) ⊎ (text_in files.passphrase ≡ Some name)

-- said of a value: that the secret isn't hexadecimal, or why what a file holds is no value, which is so of a file
abbrev pub IsValueLine : {R : Type 0} → Told → (R → Option (List ℕ)) → Texts → R → Text → Type 0
IsValueLine told remaining files reader text = (text ≡ secret_line)
    ⊎ ((name : Text) × (bad : BadValue) × IsNamedIn files name × HasBad told remaining bad files reader × (text ≡ bad_line name bad))

-- this is the input of all that a reader has, if it tells its bytes
abbrev pub IsAllOf : Option (List ℕ) → Input → Type 0
IsAllOf told input = (bytes : List ℕ) × AreAllOf told bytes × (input ≡ whole bytes)

-- the input is what a reader has behind the values of these files
abbrev pub IsBehind : {R : Type 0} → Told → (R → Option (List ℕ)) → Texts → R → Input → Type 0
IsBehind {R} told remaining files reader input = (secret passphrase : Option (List ℕ)) × (behind : R)
    × TakesValues told remaining files secret passphrase reader behind × IsAllOf (remaining behind) input

-- the message of a device that failed, or of a file that isn't read
abbrev pub IsFailureMessage : Text → Type 0
IsFailureMessage text = (length text ≤ longest_message) ⊎ ((name reason : Text) × (text ≡ file_line name reason))

module _ {R E : Type 0} (told : Told) (remaining : R → Option (List ℕ)) (contents : E → Option (List ℕ)) where
  -- With exit status 0, exactly the lines of `AreLines` are said. For random bytes that would be typed it is that line. With 1 it is what
  -- asks for values that are typed, the line about mnemonics if the command began to read them, for which its texts but the passphrase had
  -- to be right, and one message, or what is said once the input is read. If the text of the plan has another form than a plan, it is that
  -- message, and to a person which form a plan has. With 2 it is what asks for values, and what is wrong with one. With 3 it is what asks
  -- for values and mnemonics, what was said before the failure, and its message.
  pub record IsSaidOfCall (terminals : Terminals) (call : Call) (reader : R) (old new : Person E) (status : ℕ) : Type 0 where
    pub done : status ≡ 0 → (input : Input) × IsBehind told remaining call.files reader input
        × ((text : Text) × AreLines terminals call input text × Says contents old new text)
    pub typed : IsTyped terminals.input call.job → Says contents old new typed_line
    pub refused : status ≡ 1 → (HasFormlessPlan call.job → ⊥)
        → (begun : Bool) × (text : Text) × IsWithin begun (types_mnemonics terminals.input call.job)
        × ((length text ≤ longest_message) ⊎ ((input : Input) × IsBehind told remaining call.files reader input
        × AreLateLines terminals (is_bare call) call.job input text))
        × (begun ≡ true → (secret : Text) × IsReady call.job secret)
        × Says contents old new (asking_lines terminals call.files ++ (line_if begun typing_line ++ text))
    pub formless : status ≡ 1 → HasFormlessPlan call.job → (text : Text) × (length text ≤ longest_message)
        × Says contents old new (asking_lines terminals call.files ++ (text ++ line_if (is_attended terminals) plan_form_line))
    pub wrong : status ≡ 2 → IsTyped terminals.input call.job ⊎ ((text : Text) × IsValueLine told remaining call.files reader text
        × Says contents old new (asking_lines terminals call.files ++ text))
    pub failed : status ≡ 3 → (begun : Bool) × (early message : Text) × IsWithin begun (types_mnemonics terminals.input call.job)
        × AreSomeLines terminals (is_bare call) call.job early × IsFailureMessage message
        × Says contents old new (asking_lines terminals call.files ++ (line_if begun typing_line ++ (early ++ message)))

  -- Nothing is said beside help or the version. What is said of values that are missing or given twice, and of a call, is as above.
  pub record IsSaidAs (terminals : Terminals) (words : List Text) (reader : R) (old new : Person E) (status : ℕ) : Type 0 where
    pub asked : AsksForText words → status ≡ 0 → Says contents old new []
    pub untaken : takes shamir_app words ≡ false → status ≡ 0 → Says contents old new []
    pub taken : takes shamir_app words ≡ true → ((bad : BadValues) × GivesBadValues words bad × (status ≡ 2)
        × Says contents old new (said_of_values (is_attended terminals) bad))
        ⊎ ((call : Call) × GivesCall words call × IsSaidOfCall terminals call reader old new status)

  -- If memory runs out, that is said, after what asks for values, if any were asked for.
  abbrev pub IsSaid : {W : Type 0} → Terminals → List Text → R → Person E → Person E → Ended R W → Type 0
  IsSaid terminals words reader old new (With status read_to written_to) = IsSaidAs terminals words reader old new status
  IsSaid terminals words reader old new NoMemory =
      (files : Texts) × Says contents old new (asking_lines terminals files ++ memory_line)

-- ---- within the program; no public contract cites this

-- memory hasn't run out, and this holds for the exit status
abbrev pub OnStatus : {R W : Type 0} → Ended R W → (ℕ → Type 0) → Type 0
OnStatus (With status read_to written_to) Is = Is status
OnStatus NoMemory Is = ⊥

module _ {E : Type 0} (contents : E → Option (List ℕ)) where
  -- the message of a refusal is said
  abbrev pub SaysMessage : Person E → Person E → Type 0
  SaysMessage old new = (text : Text) × (length text ≤ longest_message) × Says contents old new text

  -- the message of a refusal is said, and to a person which form a plan has
  abbrev pub SaysFormless : Bool → Person E → Person E → Type 0
  SaysFormless attended old new =
      (text : Text) × (length text ≤ longest_message) × Says contents old new (text ++ line_if attended plan_form_line)

  -- what is said of an answer: its fault, or if that is wanted, that no passphrase was used
  abbrev pub SaysAnswer : Bool → Result Bool Fault → Person E → Person E → Type 0
  SaysAnswer tells (Ok is_well) old new = Says contents old new (line_if tells bare_line)
  SaysAnswer tells (Err fault) old new = SaysMessage old new

  -- why a job isn't begun is said, with its exit status
  abbrev pub IsSaidUnbegun : {R W : Type 0} → Bool → NoWork → Person E → Person E → Ended R W → Type 0
  IsSaidUnbegun attended Secret old new ended = OnStatus ended (λ status. (status ≡ 2) × Says contents old new secret_line)
  IsSaidUnbegun attended (Plan error) old new ended = OnStatus ended (λ status. (status ≡ 1)
      × (error ≡ BadPlan → SaysFormless attended old new) × (error ≢ BadPlan → SaysMessage old new))
  IsSaidUnbegun attended Memory old new ended = (ended ≡ NoMemory) × Says contents old new memory_line
  IsSaidUnbegun attended _ old new ended = OnStatus ended (λ status. (status ≡ 1) × SaysMessage old new)

  -- why the file of this name isn't read is said: what it holds is no value, for one of these causes, or for another reason
  abbrev pub IsSaidUnread : {R W : Type 0} → (BadValue → Type 0) → Text → Person E → Person E → Ended R W → Type 0
  IsSaidUnread IsCause name old new ended =
      OnEnd ended (λ status read_to written_to. (status ≡ 2 → (bad : BadValue) × IsCause bad × Says contents old new (bad_line name bad))
      × ((reason : Text) × Says contents old new (file_line name reason)))

  -- what is said for words that give no job
  abbrev pub IsSaidWithoutJob : {R W : Type 0} → Bool → NoJob → Person E → Person E → Ended R W → Type 0
  IsSaidWithoutJob attended (Help text) old new ended = OnStatus ended (λ status. status ≡ 0 → Says contents old new [])
  IsSaidWithoutJob attended (Refused text) old new ended = OnStatus ended (λ status. (status ≡ 2) × Says contents old new (string_bytes text))
  IsSaidWithoutJob attended (Values bad) old new ended =
      OnStatus ended (λ status. (status ≡ 2) × Says contents old new (said_of_values attended bad))
  IsSaidWithoutJob attended no_job.Memory old new ended = (ended ≡ NoMemory) × Says contents old new memory_line

-- what a work says itself once its input is read: what is said of its drill, or before it recovers, that no passphrase was used
abbrev pub AreWorkLines : Terminals → Bool → Work → Input → Text → Type 0
AreWorkLines terminals bare (work.Drill drill) input text = AreDrillLines terminals drill.after drill.limit input text
AreWorkLines terminals bare (work.Recover passphrase form expected) input text = text ≡ none_line terminals bare
AreWorkLines terminals bare _ input text = text ≡ []

-- what a work says itself before a device fails
abbrev pub AreSomeWorkLines : Terminals → Bool → Work → Text → Type 0
AreSomeWorkLines terminals bare (work.Drill drill) text =
    (text ≡ []) ⊎ ((set : List ShareFields) × (n : ℕ) × (text ≡ drill_lines terminals set n))
AreSomeWorkLines terminals bare (work.Recover passphrase form expected) text = (text ≡ []) ⊎ (text ≡ none_line terminals bare)
AreSomeWorkLines terminals bare _ text = text ≡ []

-- it is left to the caller of a work to tell that no passphrase was used
abbrev pub tells_last : Work → Bool → Bool
tells_last (work.Recover passphrase form expected) tells_of_none = false
tells_last _ tells_of_none = tells_of_none

module _ {R E : Type 0} (remaining : R → Option (List ℕ)) (contents : E → Option (List ℕ)) where
  -- What a work says itself, beside an answer without a fault, for the input that a reader has. Beside a refusal it is nothing, and
  -- beside a device that failed some of it.
  abbrev pub SaysInRun : {T : Type 0} → Terminals → Bool → Work → R → Result T Fault → Person E → Person E → Type 0
  SaysInRun terminals bare w reader (Ok found) old new = (input : Input) × IsAllOf (remaining reader) input
      × ((text : Text) × AreWorkLines terminals bare w input text × Says contents old new text)
  SaysInRun terminals bare w reader (Err fault) old new = (status_of_refusal fault.refusal ≡ 1 → new ≡ old)
      × ((text : Text) × AreSomeWorkLines terminals bare w text × Says contents old new text)

  -- what is said for a job
  pub record IsSaidBy (terminals : Terminals) (bare : Bool) (job : Job) (reader : R) (old new : Person E) (status : ℕ) : Type 0 where
    pub done : status ≡ 0 → (input : Input) × IsAllOf (remaining reader) input
        × ((late : Text) × AreLateLines terminals bare job input late
        × Says contents old new (line_if (types_mnemonics terminals.input job) typing_line ++ late))
    pub refused : status ≡ 1 → (HasFormlessPlan job → ⊥)
        → (begun : Bool) × (text : Text) × IsWithin begun (types_mnemonics terminals.input job)
        × ((length text ≤ longest_message)
        ⊎ ((input : Input) × IsAllOf (remaining reader) input × AreLateLines terminals bare job input text))
        × (begun ≡ true → (secret : Text) × IsReady job secret) × Says contents old new (line_if begun typing_line ++ text)
    pub formless : status ≡ 1 → HasFormlessPlan job → SaysFormless contents (is_attended terminals) old new
    pub wrong : status ≡ 2 → Says contents old new secret_line
    pub failed : status ≡ 3 → (begun : Bool) × (early message : Text) × IsWithin begun (types_mnemonics terminals.input job)
        × AreSomeLines terminals bare job early × IsFailureMessage message
        × Says contents old new (line_if begun typing_line ++ (early ++ message))

  -- the same for how it ends
  abbrev pub IsSaidOfJob : {W : Type 0} → Terminals → Bool → Job → R → Person E → Person E → Ended R W → Type 0
  IsSaidOfJob terminals bare job reader old new (With status read_to written_to) = IsSaidBy terminals bare job reader old new status
  IsSaidOfJob terminals bare job reader old new NoMemory = Says contents old new memory_line
