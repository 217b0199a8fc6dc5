-- A search for one wrong word, from place to place. No public contract cites it.
use Rattle.std.specs.Prelude.{◌≡◌, ℕ, List}
use Rattle.s39_repair.specs.declared.wrong_word.Search.{Search}
use Rattle.s39_repair.specs.Sums.{locator, sum_with}

-- the search has the sums of these words, and the locator of this place
pub record IsAt (words : List ℕ) (place : ℕ) (search : Search) : Type 0 where
  pub first : search.sums.first ≡ sum_with search.extendable words 1
  pub second : search.sums.second ≡ sum_with search.extendable words 2
  pub third : search.sums.third ≡ sum_with search.extendable words 3
  pub locator_is : search.x ≡ locator search.extendable place
