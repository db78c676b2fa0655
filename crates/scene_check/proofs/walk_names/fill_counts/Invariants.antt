-- `scene_check::walk_names::fill_counts` meets its contract: model by model, each count read at the head that the
-- layout has. Assumes nothing.
use Prim.Native.Nat.{ℕ}
use mathlib.Core.List.{List}
use lib.ListN.{get_or}
use Rattle.lists.proofs.Fills.{Filling}
use Rattle.scene_format.specs.Format.{model_number, counts_of}
use Rattle.scene_format.specs.declared.Kind.{Kind}
use Rattle.scene_check.proofs.walk_names.fill_counts.Given as goal

abbrev count : Kind → List ℕ → ℕ → ℕ
count κ b m = get_or (counts_of κ b) m 0

abbrev pub invariant-loop-m : goal.invariant-loop-m
invariant-loop-m l = Filling l.initial.counts 0 (count l.kind l.s) (model_number l.kind l.s) l.m l.counts
