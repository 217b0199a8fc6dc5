-- What lists a drill's outputs in a slice also lists what follows from them.
use Rattle.std.proofs.Common.{ℕ, ◌+◌, List, [], Result, Ok, Err}
use Rattle.s39_input.specs.declared.fault.Fault.{Fault}
use Rattle.s39_input.specs.declared.slices.NoOutput.{NoOutput}
use Rattle.s39_input.specs.declared.slices.NoOutput.TheVariants.{Refused, TooShort as SliceTooShort}
use Rattle.s39_drilling.specs.declared.drill.Done.{Done}
use Rattle.s39_drilling.specs.declared.listing.Listing.{Listing}
use Rattle.s39_drilling.specs.Slices.{Lists}

module _ {IsOutput Follows : ℕ → List ℕ → Result Done Fault → Type 0}
    (follows : (n : ℕ) (text : List ℕ) (answer : Result Done Fault) → IsOutput n text answer → Follows n text answer) (limit : ℕ) (old new : List ℕ) where
  pub lists_weaker : (result : Result Listing NoOutput) → Lists IsOutput limit old new result → Lists Follows limit old new result
  lists_weaker (Ok listing) fits = record {
    listed = fits.listed;
    text = fits.text;
    some = fits.some;
    few = fits.few;
    output = follows fits.listed fits.text (Ok (record { mismatches = listing.mismatches })) fits.output;
    in_front = fits.in_front;
    written = fits.written;
    lines = fits.lines;
    last = fits.last;
    less_fits = λ n some less.
        let (shorter, mismatches, output, short) = fits.less_fits n some less in
        (shorter, mismatches, follows n shorter (Ok (record { mismatches = mismatches })) output, short);
    more_is_too_long = λ below.
        let (longer, mismatches, output, long) = fits.more_is_too_long below in
        (longer, mismatches, follows (fits.listed + 1) longer (Ok (record { mismatches = mismatches })) output, long);
  }
  lists_weaker (Err (SliceTooShort short)) ((text, mismatches, output, needed, room), same) =
      ((text, mismatches, follows 1 text (Ok (record { mismatches = mismatches })) output, needed, room), same)
  lists_weaker (Err (Refused fault)) (output, same) = (follows limit [] (Err fault) output, same)
