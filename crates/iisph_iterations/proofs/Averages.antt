-- The error of an iteration, fluid by fluid: taking in one fluid more leaves the same for the fluids that remain, so a
-- loop that ends with none has the whole. By cases on the fluid's count and on whether averages come before. Assumes
-- nothing.
use Rattle.std.proofs.Common.{◌≡◌, ℕ, zero, suc, ◌+◌, ◌-◌, ◌*◌, ◌<◌, ◌≤◌, List, [], ◌∷◌, length, Option, Some, None}
use Rattle.std.proofs.Common.{get_or, take, drop, pos, sym, refl, ap, ◌∙◌, map-id, le_of_suc-le-suc, not-suc-le-zero}
use Rattle.std.proofs.Common.{add-one, arith, drop-cons, drop-drop, unwrap_or}
use lib.Ieee
use lib.Ieee.{Float, nan, binary64}
use Rattle.math.specs.Real.{◌⊘◌}
use Rattle.lists.specs.Lists.{fold, sum}
use Rattle.lists.proofs.Lists.{length-table, table_at, table_same, table-map, part_table}
use Rattle.iisph_rows.specs.Rows.{quotient_slot, element_at}
use Rattle.iisph_rules.specs.Iteration.{term_sum, average, averages, no_error, first_error, with_average, error_of}
use Rattle.iisph_rules.specs.declared.IterationError.{IterationError}
use Rattle.scene_format.specs.declared.Criterion.{Criterion}
use Rattle.scene_format.specs.declared.Criterion.TheVariants.{Salva}
use Rattle.scene_format.specs.declared.Summation.{Summation}
use Rattle.iisph_iterations.specs.Errors.{terms_from, terms_in, joined, with_fluid, error_on}

-- ---- the terms of a fluid stand one behind the other

module _ (work : List Float) (d n from : ℕ) {start : ℕ} (e : start ≡ quotient_slot d * n + from) where
  pub term_at : (k : ℕ) → element_at work (start + k) ≡ element_at work (quotient_slot d * n + (from + k))
  term_at k =
      let at : start + k ≡ quotient_slot d * n + (from + k) = omega (arith, e) in
      ap (λ (i : ℕ). element_at work i) at

  -- as a part of the list that starts and ends at these elements
  pub terms_part : (count : ℕ) → start + count ≤ length work
      → take (start + count - start) (drop start work) ≡ terms_from work d n from count
  terms_part count h =
      let long : start + count - start ≡ count = omega arith in
      rw long
      (ap (λ (xs : List Float). take count (drop start xs)) (sym (table-map (λ (x : Float). x) work nan ∙ map-id work))
      ∙ part_table start count (length work) (λ i. get_or work i nan) h
      ∙ table_same count _ _ (λ k m. term_at k))

  -- how long this part is, and what is read in it
  module _ (count : ℕ) (h : start + count ≤ length work) where
    pub terms-long : length (take (start + count - start) (drop start work)) ≡ count
    terms-long = ap length (terms_part count h) ∙ length-table count _

    pub term_read : (k : ℕ) → k < length (take (start + count - start) (drop start work))
        → get_or (take (start + count - start) (drop start work)) k nan
        ≡ element_at work (quotient_slot d * n + (from + k))
    term_read k l =
        ap (λ (xs : List Float). get_or xs k nan) (terms_part count h)
        ∙ table_at count (λ k. element_at work (quotient_slot d * n + (from + k))) k nan (omega (arith, terms-long))

-- ---- one fluid more

-- the Rust's error starts with no error
pub joined_salva : (error : Option IterationError) (x : Float) {e : IterationError} → e ≡ unwrap_or error no_error
    → with_average Salva e x ≡ joined Salva error x
unfolding joined first_error
joined_salva None x q = ap (λ (e : IterationError). with_average Salva e x) q
joined_salva (Some error) x q = ap (λ (e : IterationError). with_average Salva e x) q

-- the averages from this fluid on are its own, if it has one, and those of the fluids behind it
average_next : (criterion : Criterion) (w : Summation) (count : ℕ) (counts : List ℕ) (terms : List Float)
    (error : Option IterationError)
    → error_on criterion error (averages w (count ∷ counts) terms)
    ≡ error_on criterion (with_fluid criterion w error count (take count terms)) (averages w counts (drop count terms))
unfolding averages with_fluid joined error_on error_of fold
average_next criterion w zero counts terms error = refl
average_next criterion w (suc n) counts terms None = refl
average_next criterion w (suc n) counts terms (Some error) = refl

-- no averages are left
error_done : (criterion : Criterion) (error : Option IterationError)
    → unwrap_or error no_error ≡ error_on criterion error []
unfolding error_on error_of fold
error_done criterion None = refl
error_done criterion (Some error) = refl

-- a fluid with no particles, and one with some
pub with_none : (criterion : Criterion) (w : Summation) (count : ℕ) (error : Option IterationError) (terms : List Float)
    → count ≡ 0 → error ≡ with_fluid criterion w error count terms
unfolding with_fluid
with_none criterion w zero error terms e = refl
with_none criterion w (suc n) error terms e = absurd (omega arith)

pub with_some : (criterion : Criterion) (w : Summation) (count : ℕ) (error : Option IterationError) (terms : List Float)
    → 0 < count → {sum size : Float} {x : IterationError} → sum ≡ term_sum w terms
    → size ≡ Ieee.of_int binary64 (pos count) → x ≡ joined criterion error (sum ⊘ size)
    → Some x ≡ with_fluid criterion w error count terms
unfolding with_fluid average
with_some criterion w zero error terms h e q r = absurd (not-suc-le-zero h)
with_some criterion w (suc n) error terms h e q r = rw (r, e, q)

-- after m fluids, whose particles end at `from`; `error` is what they came to
pub record Averaged (criterion : Criterion) (w : Summation) (counts : List ℕ) (d n : ℕ) (work : List Float) (m from : ℕ)
    (error : Option IterationError) : Type 0 where
  pub within : m ≤ length counts
  pub rows : from + sum (drop m counts) ≡ n
  pub rest : error_on criterion error (averages w (drop m counts) (drop from (terms_in d n work)))
      ≡ error_of criterion (averages w counts (terms_in d n work))

module _ (criterion : Criterion) (w : Summation) (counts : List ℕ) (d n : ℕ) (work : List Float) where
  pub none_averaged : sum counts ≡ n → Averaged criterion w counts d n work 0 0 None
  unfolding error_on
  none_averaged e = record { within = omega arith; rows = omega (arith, e); rest = refl }

  module _ {m from : ℕ} {error : Option IterationError} (here : Averaged criterion w counts d n work m from error) where
    -- the particles of the next fluid
    pub next_rows : m < length counts → from + get_or counts m 0 + sum (drop (suc m) counts) ≡ n
    unfolding sum
    next_rows h = omega (arith, rw (drop-cons counts m 0 h) at here.rows)

    pub next_averaged : m < length counts → {count : ℕ} {x : Option IterationError} → count ≡ get_or counts m 0
        → x ≡ with_fluid criterion w error count (terms_from work d n from count)
        → Averaged criterion w counts d n work (m + 1) (from + count) x
    next_averaged h {count} {x} e q =
        let rows = next_rows h in
        let col = terms_in d n work in
        let part : take count (drop from col) ≡ terms_from work d n from count = part_table from count n _ (omega arith)
        in
        record {
          within = omega arith;
          rows = rw add-one (omega arith);
          rest =
              rw (add-one m, q, ← part, ← drop-drop count from col)
              (sym (average_next criterion w count (drop (suc m) counts) (drop from col) error)
              ∙ ap (λ (cs : List ℕ). error_on criterion error (averages w cs (drop from col)))
              (ap (λ (k : ℕ). k ∷ drop (suc m) counts) e ∙ sym (drop-cons counts m 0 h))
              ∙ here.rest);
        }

    pub all_averaged : length counts ≤ m
        → unwrap_or error no_error ≡ error_of criterion (averages w counts (terms_in d n work))
    unfolding averages
    all_averaged h =
        let done : drop m counts ≡ [] = drop_all counts m h in
        error_done criterion error ∙ rw done at here.rest
      where
        drop_all : (xs : List ℕ) (k : ℕ) → length xs ≤ k → drop k xs ≡ []
        drop_all [] zero l = refl
        drop_all [] (suc k) l = refl
        drop_all (x ∷ xs) zero l = absurd (not-suc-le-zero l)
        drop_all (x ∷ xs) (suc k) l = drop_all xs k (le_of_suc-le-suc l)
