-- There are random bytes by which a split has known shares, and no others.
use Rattle.std.proofs.Common.{◌≡◌, ℕ, ◌+◌, ◌-◌, ◌<◌, List, [], ◌∷◌, ◌++◌, length, map, get_or, refl, sym, subst, arith, zero-add}
use Rattle.std.specs.List.{All, concat, range_with_len}
use Rattle.std.proofs.lemmas.List.Elements.{All-append, All-nil, All-head, All-tail}
use Rattle.std.proofs.lemmas.List.FromFn.{length-map-range_with_len, get_or-map-range_with_len}
use Rattle.s39_field.specs.Interpolation.{InterpolatesBytes}
use Rattle.s39_kdf.specs.Bytes.{AreBytes}
use Rattle.s39_split.specs.Fitting.{Fits}
use Rattle.s39_split.proofs.SplitLaws.{AreBytes-interpolated, AreBytes-digest_share}
use Rattle.s39_split.proofs.FittedPoints.{AreKnown, AreFitted, fitting_points, fitting_points-all, value, interpolated, fits, fits_only}

-- strings of bytes, joined
AreBytes-concat : (strings : List (List ℕ)) → All AreBytes strings → AreBytes (concat strings)
AreBytes-concat [] each = All-nil (λ byte. byte < 256)
AreBytes-concat (string ∷ strings) each =
    All-append (λ byte. byte < 256) string (concat strings) (All-head AreBytes string strings each)
    (AreBytes-concat strings (All-tail AreBytes string strings each))

module _ (threshold : ℕ) (secret key : List ℕ) (known : List (ℕ × List ℕ)) (are : AreKnown threshold secret key known)
    (bytes : All (λ s. AreBytes s.1) (fitting_points secret key known)) where
  -- what they interpolate at 0, 1, .., after the key
  abbrev fitted_strings : List (List ℕ)
  fitted_strings = map (value threshold secret key known are bytes) (range_with_len 0 (threshold - 2))

  abbrev fitted_bytes : List ℕ
  fitted_bytes = key ++ concat fitted_strings

  are_fitted_bytes : AreFitted (fitting_points secret key known) key (threshold - 2) fitted_bytes
  are_fitted_bytes = record {
    strings = fitted_strings;
    number = length-map-range_with_len (value threshold secret key known are bytes) 0 (threshold - 2);
    each = λ j d low.
        subst (InterpolatesBytes (fitting_points secret key known) j)
        (sym (get_or-map-range_with_len (value threshold secret key known are bytes) 0 (threshold - 2) j j d low (zero-add j)))
        (interpolated threshold secret key known are bytes j);
    begins = refl;
  }

  -- they are bytes
  AreBytes-fitted : AreBytes key → AreBytes fitted_bytes
  AreBytes-fitted of_key =
      All-append (λ byte. byte < 256) key (concat fitted_strings) of_key
      (AreBytes-concat fitted_strings
      (λ j d within.
      let count : length fitted_strings ≡ threshold - 2 =
      length-map-range_with_len (value threshold secret key known are bytes) 0 (threshold - 2) in
      let few = are.few in
      AreBytes-interpolated (fitting_points secret key known) j (get_or fitted_strings j d) (omega arith)
      (subst (InterpolatesBytes (fitting_points secret key known) j)
      (sym (get_or-map-range_with_len (value threshold secret key known are bytes) 0 (threshold - 2) j j d (omega arith) (zero-add j)))
      (interpolated threshold secret key known are bytes j))))

-- the random bytes that begin with a key and give known shares
pub record HaveFitting (threshold : ℕ) (secret key : List ℕ) (known : List (ℕ × List ℕ)) : Type 0 where
  pub random : List ℕ
  pub fit : Fits threshold secret key known random
  pub bytes : AreBytes random
  pub only : (other : List ℕ) → Fits threshold secret key known other → other ≡ random

pub have_fitting : (threshold : ℕ) (secret key : List ℕ) (known : List (ℕ × List ℕ)) → AreKnown threshold secret key known
    → AreBytes secret → AreBytes key → All (λ s. AreBytes s.1) known → HaveFitting threshold secret key known
have_fitting threshold secret key known are of_secret of_key of_known =
    let bytes = fitting_points-all secret key known (λ s. AreBytes s.1) of_known (AreBytes-digest_share key secret of_key) of_secret in
    let random = fitted_bytes threshold secret key known are bytes in
    let fitted = are_fitted_bytes threshold secret key known are bytes in
    record {
      random = random;
      fit = fits threshold secret key known are bytes random fitted;
      bytes = AreBytes-fitted threshold secret key known are bytes of_key;
      only = fits_only threshold secret key known are bytes random fitted;
    }
