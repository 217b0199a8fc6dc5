-- What a watch is told of a drill, from the set of its input.
use Rattle.std.proofs.Common.{◌≡◌, ◌≤◌, ◌∙◌, ℕ, List, Option, Ok, ap, length, take}
use Rattle.s39_words.specs.declared.ShareFields.{ShareFields}
use Rattle.s39_set.specs.Listing.{IsListing}
use Rattle.s39_set.specs.Names.{Names}
use Rattle.s39_input.specs.Accepted.{IsCheckedSet, read_as}
use Rattle.s39_input.specs.Device.{Counted}
use Rattle.s39_input.specs.Input.{Input}
use Rattle.s39_input.specs.Runs.{OfInput}
use Rattle.s39_input.specs.Steps.{gives, refuses}
use Rattle.s39_input.proofs.Runs.Devices.{OfInput-map}
use Rattle.s39_drilling.specs.Watching.{AreSeen, SeesAll, SeesFirst}

-- a set is what its input is read as
read_of_checked : (passphrase : List ℕ) (input : Input) (set : List ShareFields) → IsCheckedSet passphrase input (Ok set) → read_as input ≡ Ok set
read_of_checked passphrase input set (refuses bad first is) = absurd (cc)
read_of_checked passphrase input set (gives _ printable (refuses stop read is)) = absurd (cc)
read_of_checked passphrase input set (gives _ printable (gives other read is)) = let same : other ≡ set = cc in read ∙ ap Ok same

module _ {R P : Type 0} (remaining : R → Option (List ℕ)) (counts : ℕ → P → P → Type 0) (finds : List ShareFields → P → P → Type 0)
    (old mid new : P) {reader read_to : Counted R} {passphrase : List ℕ} {set : List ShareFields} {after : Option Names} {limit : ℕ}
    {listed : List Names} (checked : OfInput remaining reader read_to (λ input. IsCheckedSet passphrase input (Ok set))) (listing : IsListing set after limit listed)
    (found : finds set old mid) where
  pub sees_all : AreSeen counts (length listed) mid new → OfInput remaining reader read_to (SeesAll counts finds after limit old new)
  sees_all seen = OfInput-map checked (λ input is. record {
    set = set;
    listed = listed;
    mid = mid;
    read = read_of_checked passphrase input set is;
    found = found;
    listing = listing;
    seen = seen;
  })

  pub sees_first : {Are : List ShareFields → List Names → Type 0}
      → (n : ℕ) × (n ≤ length listed) × AreSeen counts n mid new × Are set (take n listed)
      → OfInput remaining reader read_to (SeesFirst counts finds Are after limit old new)
  sees_first (n, few, seen, first) = OfInput-map checked (λ input is. record {
    set = set;
    listed = listed;
    mid = mid;
    count = n;
    read = read_of_checked passphrase input set is;
    found = found;
    listing = listing;
    few = few;
    seen = seen;
    first = first;
  })
