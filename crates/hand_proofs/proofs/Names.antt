-- The names of the logic that a walk by hand uses, in one place. Assumes nothing.
pub use mathlib.Core.Path.{◌≡◌, refl, sym, ap, subst, ◌∙◌}
pub use Prim.Native.Nat.{ℕ, ◌<◌, ◌^◌}
pub use mathlib.Core.List.{List, [], ◌∷◌}
pub use lib.Dec.{T as Holds}
pub use lib.Ieee.{Float, binary64}
pub use lib.ListN.{length}
pub use seplogic.Ra.Ura.{Ura}
pub use base.Fraction.{full_share}
pub use mir.Syntax.{named, erased, w64, ty_int, ty_float}
pub use mir.Val.{Val, WT, has_ty, vunit, vint, vptr}
pub use base.Logic.{SProp, ent, sep, emp, id⊢}
pub use base.Fml.{GName, Lft, Share, Fml, ftrue, flft, fat, fobs, fres, fbor}
pub use prog.Memory.{Memory}
pub use prog.Routine.{Routine}
pub use prog.Wp.{Heap, Env, Calls, Loops, WpFn, Tables}
pub use ghost.Atoms.{Atoms}
pub use types.Logic.{Logic, sem}
pub use contract.Monad.{Fun, fact_i}
pub use contract.Lifetimes.{Lfts}
pub use contract.Running.{tables}
unfoldable pub use contract.Running.{tables_of}
pub use types.Kit.{
  Item,
  ‵,
  raw,
  ◌⊛◌,
  ⋆,
  mean,
  given,
  at_ret,
  ◌$◌,
  ◌∵◌,
  !,
  qed,
  by,
  move,
  keep,
  drop,
  use1,
  use2,
  split,
  join,
  learn,
  rewrite,
  fsplit,
  fsplit3,
  fjoin,
  fjoin3,
  feq_i,
  feq_l,
  suffices,
  frame,
  done,
}
pub use types.Part.{whole, sub, look_in, agg}
pub use types.Run.{
  look,
  look_raw,
  store_raw,
  init,
  forget,
  stop,
  hop,
  fld,
  from,
  load,
  addr,
  lit,
  unit_lit,
  of_opd,
  and_then,
  no_more,
  assigns,
  land,
  land_last,
  first,
  branches,
  skips,
  exec,
  returns,
  enter,
  alloc1,
  alloc0,
  params1,
  pass1,
  pass0,
  free1,
  free0,
}
pub use types.SemTy.{Body}
pub use sound.WpLaws.{FmC, fm_of}
pub use denote.RattleType.{RattleType, owns}
pub use denote.Laws.{Is, shows}
pub use denote.Memory.{mem}
pub use denote.Plain.{uint_vals, uint_Tells, uint_Makes, uint_Lawful}
pub use denote.Floats.{passes, float_Makes, float_Lawful}
pub use denote.Builtin.{u8, usize, f64}
pub use denote.Ref.{Bor, MutBor, NamedLft, MutRef, shr_vals, mut_vals, mut_Tells}
pub use denote.Signature.{plain, shr_slice_of, named_lft}
pub use denote.Slice.{slice_val, ShrSlice, shr_slice_vals, mut_slice_vals, shr_slice_Tells, shr_slice_Lawful}
pub use denote.Slice.{shr_slice_copy, MutSlice, mut_slice_Tells}
pub use denote.Steps.{only, opens, closes, owned, peeks, nothing}
pub use denote.Struct.Steps.{spelt}
pub use denote.Triple.Statement.{Contract, Triple}
pub use denote.Triple.Call.{calls_at, calls_at_last}
pub use denote.Triple.Clauses.{lasts}
pub use denote.Triple.Entry.{on_entry}
pub use denote.Triple.Spec.{Meets, triple_of}
pub use denote.Triple.Table.{entered, cited}
pub use denote.Triple.Walked.{
  says,
  Stays,
  stay_none,
  stay_none_slice,
  stay_dropped,
  stay_ref,
  gave_ref,
  gave_slice,
  walk_of,
  Goes-none,
  Goes-none_slice,
  Goes-dropped,
  Goes-ref,
  Goes-gave_ref,
  Goes-gave_slice,
  ends_at,
}
pub use denote.Exit.{yes}
