-- One round more.
use Rattle.std.proofs.Common.{◌≡◌, ℕ, ◌+◌, List, refl, add-one, slice_index}
use Rattle.keccak.specs.Keccak.{theta, rho_pi, chi, iota, rounds, round_constants}

pub one_more : (a v m p b r : List ℕ) (n : ℕ) → v ≡ rounds a n → m ≡ theta v → p ≡ rho_pi m → b ≡ chi p
    → r ≡ iota b (slice_index round_constants n) → r ≡ rounds a (n + 1)
unfolding rounds
one_more a v m p b r n e f g h k = rw (k, h, g, f, e, add-one n) refl
