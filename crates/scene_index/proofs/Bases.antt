-- The bases of a kind's names, stored model by model: one model more is its blocks behind those stored, from the number
-- of the particles before it on. By what a longer table is. Assumes nothing.
use Prim.Native.Nat.{ℕ, suc, ◌+◌, ◌*◌, ◌/◌, ◌%◌, ◌<◌, ◌≤◌}
use mathlib.Core.Path.{◌≡◌, refl, sym, ap, ◌∙◌}
use mathlib.Core.List.{List, ◌++◌}
use native.Mathlib.Nat.{le_antisymm}
use native.Mathlib.Numerals.{add-one}
use native.Mathlib.Omega.{arith}
use lib.ListN.{length, get_or}
use lib.Seq.{sets, length-sets}
use Rattle.lists.specs.Lists.{table}
use Rattle.lists.proofs.Fills.{sets-append}
use Rattle.lists.proofs.Lists.{length-table, table-add, table_same}
use Rattle.scene_format.specs.Format.{model_number, counts_of, starts_of}
use Rattle.scene_format.specs.Scene.{size_of}
use Rattle.scene_format.specs.SceneOf.{scene_of}
use Rattle.scene_format.specs.declared.Kind.{Kind}
use Rattle.scene_index.specs.Index.{block_size, model_blocks, bases_length, base_of, blocks_from, bases_of, kind_bases}
use Rattle.scene_index.proofs.Runs.{before, none_before, count_next, start_before, before_more}

-- ---- one model more

module _ (starts : List ℕ) where
  block_base : (m x : ℕ) → x < model_blocks → base_of starts (model_blocks * m + x) ≡ get_or starts m 0 + block_size * x
  unfolding base_of
  block_base m x h =
      let q : (model_blocks * m + x) / model_blocks ≡ m = omega arith in
      let r : (model_blocks * m + x) % model_blocks ≡ x = omega arith in
      rw (q, r)

  bases_next : (m : ℕ) → bases_of (suc m) starts ≡ bases_of m starts ++ blocks_from (get_or starts m 0)
  unfolding bases_of blocks_from
  bases_next m =
      let e : model_blocks * suc m ≡ model_blocks * m + model_blocks = omega arith in
      ap (λ (n : ℕ). table n (base_of starts)) e
      ∙ table-add (model_blocks * m) model_blocks (base_of starts)
      ∙ ap (λ (bs : List ℕ). table (model_blocks * m) (base_of starts) ++ bs)
      (table_same model_blocks _ _ (λ x h. block_base m x h))

  length_bases : (m : ℕ) → length (bases_of m starts) ≡ model_blocks * m
  unfolding bases_of
  length_bases m = length-table (model_blocks * m) (base_of starts)

-- ---- the models of a kind

module _ (κ : Kind) (b l : List ℕ) (k : ℕ) where
  -- the bases of the first m models are stored in l, from element k on; this gave x, the next model's blocks go to
  -- `to`, and its first particle has the number `start`
  pub record Based (start to m : ℕ) (x : List ℕ) : Type 0 where
    pub within : m ≤ model_number κ b
    pub first : start ≡ before (counts_of κ b) m
    pub next : to ≡ k + model_blocks * m
    pub long : length x ≡ length l
    pub stored : x ≡ sets l k (bases_of m (starts_of κ b))

  pub none_based : Based 0 k 0 l
  unfolding bases_of table
  none_based =
      record {
        within = omega arith;
        first = sym (none_before κ b);
        next = omega arith;
        long = refl;
        stored = refl;
      }

  module _ {start to m : ℕ} {x : List ℕ} (here : Based start to m x) where
    module _ (h : m < model_number κ b) where
      -- the model's blocks fit, and its number is small
      pub blocks_room : k + bases_length κ b ≤ length l → to + model_blocks ≤ length x
      blocks_room room = omega (arith, here.next, here.long)

      pub start_few : start + get_or (counts_of κ b) m 0 ≤ size_of κ (scene_of b)
      start_few = omega (arith, here.first, count_next κ b m, before_more κ b m h)

      pub one_more_based : {count : ℕ} {y : List ℕ} → count ≡ get_or (counts_of κ b) m 0
          → y ≡ sets x to (blocks_from start) → Based (start + count) (to + model_blocks) (m + 1) y
      one_more_based {count} {y} c e =
          let done = bases_of m (starts_of κ b) in
          let at : start ≡ get_or (starts_of κ b) m 0 = here.first ∙ sym (start_before κ b m h) in
          let from : to ≡ k + length done = omega (arith, here.next, length_bases (starts_of κ b) m) in
          record {
            within = omega arith;
            first = rw (add-one m) (omega (arith, here.first, c, count_next κ b m));
            next = omega (arith, here.next);
            long = ap length e ∙ length-sets x to (blocks_from start) ∙ here.long;
            stored =
                e
                ∙ rw (add-one m, bases_next (starts_of κ b) m, here.stored, from, at)
                (sym (sets-append done (blocks_from (get_or (starts_of κ b) m 0)) l k));
          }

    pub all_based : model_number κ b ≤ m → x ≡ sets l k (kind_bases κ b)
    all_based h = here.stored
        ∙ ap (λ (n : ℕ). sets l k (bases_of n (starts_of κ b))) (le_antisymm here.within h)
