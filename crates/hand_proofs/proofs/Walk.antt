-- The steps that walks by hand share.
--     Of           the contract of a function that is called, of its ended signature and its clauses
--     answered     what a call has left is taken apart: a fact of the result and of the last values is learned; what
--         the result owns stands in front, then the tokens, then what says the last values
--     answers      a call of a function that meets its contract, with nothing said of last values. What the callee asks
--         beside its types is given as had of nothing (`fact_i`)
--     env          a body's locals, each with its block
--     gives_back   a local is freed, whatever its cell holds
--     meets_by     a function meets its contract if its body is walked for all lifetimes, shares and arguments; the
--         walk may use a fact φ that the function asks for
-- Assumes `Logic`.
use mathlib.Core.Path.{◌≡◌, subst}
use Prim.Native.Nat.{ℕ}
use mathlib.Core.List.{List, [], ◌∷◌}
use seplogic.Ra.Ura.{Ura}
use base.Fraction.{full_share}
use mir.Syntax.{Callee, Ty, Place, Opd as Operand, Body, Local, local, Fn, seq, call}
use mir.Val.{Val}
use base.Logic.{SProp, ent, sep, emp, via, id⊢, comm∗, assoc', emp∗, mono_l, mono_r}
use base.Fml.{fat, fdies}
use prog.Wp.{Heap, Env, Calls, Loops, WpFn, Tables}
use types.Logic.{Logic}
use contract.Monad.{fact}
use contract.Lifetimes.{Lfts, Shares, AllOutlive}
use types.Kit.{Item, ‵, raw, ◌⊛◌, ⋆, mean, nth, del, pull, some, later, Post, Goal, Soaks, runs, lands, frees}
use types.Kit.{Seq, Step, step, ◌$◌, use1, await, pick, split, move, drop}
use types.Run.{Opds}
use sound.WpLaws.{FmC, WpFn-mono}
use denote.RattleType.{flat}
use denote.Laws.{Is, Are, Ises, Spells, valss, Tellss, shows}
use denote.Signature.{type_at, types_at}
use denote.Triple.End.{outs}
use denote.Steps.{peeks, heard}
use denote.Triple.Statement.{Contract, Triple}
use denote.Triple.Call.{calls_at}
use denote.Triple.Clauses.{Clauses, Ended, Lasts, ensured, lasts, closing}
use denote.Triple.Entry.{Args, Res, alive, on_entry}
use denote.Triple.Spec.{Meets, triple_of}
use denote.Triple.Walked.{needs, Stays, AllGo, walk_of, walked, walk_Meets}

abbrev pub Of : {M : Type 1} {𝓤 : Ura M} (𝓛 : Logic 𝓤) (T : Ended) → Clauses 𝓤 T → Contract 𝓤
Of 𝓛 T c = triple_of 𝓛 T.signature (closing 𝓛 T c)

-- what is had of nothing is had beside P
beside : {M : Type 1} (𝓤 : Ura M) (P R : SProp 𝓤) → ent 𝓤 (emp 𝓤) R → ent 𝓤 P (sep 𝓤 P R)
beside 𝓤 P R h = via 𝓤 (sep 𝓤 (emp 𝓤) P) (emp∗ 𝓤 P) (via 𝓤 (sep 𝓤 R P) (mono_l 𝓤 P h) (comm∗ 𝓤 R P))

module _ {M : Type 1} {𝓤 : Ura M} {𝓛 : Logic 𝓤} {K : Type 0} {Γ : List (Item 𝓤)}
    {G : Goal 𝓤 𝓛.H} where
  pub answered : K → Soaks G → (T : Ended) (c : Clauses 𝓤 T) (y : (Of 𝓛 T c).Ghost) (v : Val)
      (φ : Res T.signature y.0.0 → Lasts T y.0.0 y.0.3 → Type 0)
      → ((r : Res T.signature y.0.0) (ws : Lasts T y.0.0 y.0.3)
      → ent 𝓤 ((c y.0.0 y.0.3).ensures y.1 r (outs y.0.0 T.signature.params T.kept y.0.3 ws))
      (fact 𝓤 (φ r ws)))
      → ((r : Res T.signature y.0.0) (ws : Lasts T y.0.0 y.0.3) → φ r ws
      → Is (type_at T.signature.result y.0.0) r (v ∷ [])
      → Seq K 𝓛
      (‵ ((type_at T.signature.result y.0.0).own_val r (v ∷ [])) ∷ raw
      (alive 𝓛 T.signature y.0.0 y.0.1) ∷ ‵ (lasts T y.0.0 y.0.3 ws) ∷ Γ) G)
      → Seq K 𝓛 (raw ((Of 𝓛 T c).post y v) ∷ Γ) G
  answered t soaks T c y v φ tells k =
      let clauses = c y.0.0 y.0.3 in
      let result = type_at T.signature.result y.0.0 in
      use1 𝓛 (later
      (some (λ (r : Res T.signature y.0.0).
      (raw (alive 𝓛 T.signature y.0.0 y.0.1) ⊛ ‵ (result.own_val r (v ∷ []))) ⊛ raw
      (ensured 𝓛 T c y.0.0 y.0.3 y.1 r))))
      (id⊢ 𝓤 _) $ await t soaks $ pick t (λ r.
      split t $ move t (1 ∷ []) $
      use1 𝓛 (some (λ (ws : Lasts T y.0.0 y.0.3). ‵ (lasts T y.0.0 y.0.3 ws) ⊛ raw
      (clauses.ensures y.1 r (outs y.0.0 T.signature.params T.kept y.0.3 ws))))
      (id⊢ 𝓤 _) $ pick t (λ ws. split t $ move t (1 ∷ []) $ use1 𝓛 (raw (fact 𝓤 (φ r ws))) (tells r ws) $
      heard t (φ r ws) (λ e. move t (1 ∷ []) $
      split t $ move t (1 ∷ []) $ peeks t result (Is result) (shows 𝓛 result) r (v ∷ []) (λ is. k r ws e is))))

module _ {M : Type 1} {𝓤 : Ura M} {𝓛 : Logic 𝓤} {K : Type 0} {Γ : List (Item 𝓤)}
    {E : Env 𝓤 𝓛.H} {C : Calls 𝓤 𝓛.H} {f : Callee}
    {xs : List Operand}
    {Λ : Loops 𝓤 𝓛.H} {q : Post 𝓤 𝓛.H} {d : Place} where
  open 𝓛 use {H}

  pub answers : K → FmC 𝓤 H 𝓛.laws C → {rest : Body} (T : Ended) (c : Clauses 𝓤 T) → Triple 𝓤 (C f) (Of 𝓛 T c)
      → (y : (Of 𝓛 T c).Ghost)
      → ent 𝓤 (emp 𝓤) ((c y.0.0 y.0.3).requires y.1) → (φ : Res T.signature y.0.0 → Type 0)
      → ((r : Res T.signature y.0.0) (ws : Lasts T y.0.0 y.0.3)
      → ent 𝓤 ((c y.0.0 y.0.3).ensures y.1 r (outs y.0.0 T.signature.params T.kept y.0.3 ws))
      (fact 𝓤 (φ r)))
      → Opds K 𝓛 (raw ((Of 𝓛 T c).pre y) ∷ Γ) E xs ((Of 𝓛 T c).args y)
      → ((r : Res T.signature y.0.0) (v : Val) → φ r → Is (type_at T.signature.result y.0.0) r (v ∷ [])
      → Seq K 𝓛
      (‵ ((type_at T.signature.result y.0.0).own_val r (v ∷ [])) ∷ raw
      (alive 𝓛 T.signature y.0.0 y.0.1) ∷ Γ) (lands C Λ E d v rest q))
      → Seq K 𝓛 (raw (on_entry 𝓛 T.signature y.0.0 y.0.1 y.0.3 y.0.4) ∷ Γ)
      (runs C Λ E (seq (call f xs d) rest) q)
  answers t fm T c met y asks φ tells os k =
      let clauses = c y.0.0 y.0.3 in
      let entry = on_entry 𝓛 T.signature y.0.0 y.0.1 y.0.3 y.0.4 in
      use1 𝓛 (raw ((Of 𝓛 T c).pre y)) (beside 𝓤 entry (clauses.requires y.1) asks) $
      calls_at t fm (Of 𝓛 T c) met y os (λ v.
      answered t tt T c y v (λ r ws. φ r) tells (λ r ws e is. move t (2 ∷ []) $ drop t $ k r v e is))

abbrev pub env : {M : Type 1} (𝓤 : Ura M) (H : Heap 𝓤) → List Local → List ℕ → Env 𝓤 H
env 𝓤 H [] ls = []
env 𝓤 H (local τ home ∷ locals) [] = []
env 𝓤 H (local τ home ∷ locals) (l ∷ ls) = (τ, l) ∷ env 𝓤 H locals ls

-- entry n is the item i: it is taken out
pulled : {M : Type 1} {𝓤 : Ura M} (𝓛 : Logic 𝓤) (n : ℕ) (Γ : List (Item 𝓤)) {i : Item 𝓤}
    → nth 𝓛 n Γ ≡ i → ent 𝓤 (⋆ 𝓛 Γ) (sep 𝓤 (mean 𝓛 i) (⋆ 𝓛 (del 𝓛 n Γ)))
pulled {𝓤 = 𝓤} 𝓛 n Γ e =
    subst (λ (j : Item 𝓤). ent 𝓤 (⋆ 𝓛 Γ) (sep 𝓤 (mean 𝓛 j) (⋆ 𝓛 (del 𝓛 n Γ)))) e (pull 𝓛 n Γ)

-- the first local left, whose cell is entry n, is given back
pub gives_back : {M : Type 1} {𝓤 : Ura M} {𝓛 : Logic 𝓤} {K : Type 0} {Γ : List (Item 𝓤)}
    → K → (n : ℕ) {τ : Ty} {b : ℕ} {v : Val} {E : Env 𝓤 𝓛.H} {G : Goal 𝓤 𝓛.H}
    → nth 𝓛 n Γ ≡ ‵ (fat full_share τ b 0 v) → nth 𝓛 n (del 𝓛 n Γ) ≡ ‵ (fdies τ b)
    → Step K 𝓛 (del 𝓛 n (del 𝓛 n Γ)) (frees E G) Γ (frees ((τ, b) ∷ E) G)
gives_back {𝓤 = 𝓤} {𝓛 = 𝓛} {Γ = Γ} t n {τ} {b} {v} cell dies =
    let one = del 𝓛 n Γ in
    let two = del 𝓛 n one in
    step (λ s. record {
      prf =
          via 𝓤 (sep 𝓤 (𝓛.H.at full_share τ b 0 v) (⋆ 𝓛 one)) (pulled 𝓛 n Γ cell)
          (via 𝓤 (sep 𝓤 (𝓛.H.room τ b 0) (⋆ 𝓛 one)) (mono_l 𝓤 (⋆ 𝓛 one) (𝓛.laws.at_room τ b 0 v))
          (via 𝓤 (sep 𝓤 (𝓛.H.room τ b 0) (sep 𝓤 (𝓛.H.dies τ b) (⋆ 𝓛 two)))
          (mono_r 𝓤 (𝓛.H.room τ b 0) (pulled 𝓛 n one dies))
          (via 𝓤 (sep 𝓤 (sep 𝓤 (𝓛.H.room τ b 0) (𝓛.H.dies τ b)) (⋆ 𝓛 two))
          (assoc' 𝓤 (𝓛.H.room τ b 0) (𝓛.H.dies τ b) (⋆ 𝓛 two))
          (mono_r 𝓤 (sep 𝓤 (𝓛.H.room τ b 0) (𝓛.H.dies τ b)) s.prf))));
    })

pub meets_by : {M : Type 1} {𝓤 : Ura M} (𝓛 : Logic 𝓤) (𝓣 : Tables 𝓤 𝓛.H) (fn : Fn)
    (T : Ended)
    (hs : Stays T.signature.params T.kept)
    → AllGo 𝓛 T.signature.lifetimes T.signature.params T.kept hs
    → (c : Clauses 𝓤 T) (sp : (κs : Lfts T.signature.lifetimes) → Spells (types_at T.signature.params κs))
    → ((κs : Lfts T.signature.lifetimes)
    → Tellss (types_at T.signature.params κs) (Ises (types_at T.signature.params κs)) (sp κs))
    → (φ : (κs : Lfts T.signature.lifetimes) → Args T.signature κs → Type 0)
    → ((κs : Lfts T.signature.lifetimes) (a : Args T.signature κs) (g : (c κs a).ghost)
    → ent 𝓤 ((c κs a).requires g) (fact 𝓤 (φ κs a)))
    → ((κs : Lfts T.signature.lifetimes) (qs : Shares T.signature.lifetimes)
    (bounds : AllOutlive T.signature.lifetimes T.signature.outlives κs)
    (a : Args T.signature κs) (g : (c κs a).ghost)
    → Are (types_at T.signature.params κs) (Ises (types_at T.signature.params κs)) a
    (valss (types_at T.signature.params κs) (sp κs) a) → φ κs a
    → ent 𝓤 (on_entry 𝓛 T.signature κs qs a (valss (types_at T.signature.params κs) (sp κs) a))
    (WpFn 𝓤 𝓛.H 𝓣.C 𝓣.Λ fn
    (flat (types_at T.signature.params κs) (valss (types_at T.signature.params κs) (sp κs) a))
    ((walk_of 𝓛 T hs c).post ((κs, qs, bounds, a, valss (types_at T.signature.params κs) (sp κs) a), g))))
    → Meets 𝓛 T.signature (WpFn 𝓤 𝓛.H 𝓣.C 𝓣.Λ fn) (closing 𝓛 T c)
meets_by {𝓤 = 𝓤} 𝓛 𝓣 fn T hs go c sp tl φ tells k =
    walk_Meets 𝓛 T hs go c (WpFn 𝓤 𝓛.H 𝓣.C 𝓣.Λ fn) (WpFn-mono 𝓤 𝓛.H 𝓛.laws 𝓣 fn)
    (walked 𝓛 T hs c (WpFn 𝓤 𝓛.H 𝓣.C 𝓣.Λ fn) sp tl (λ κs qs bounds a g are.
    let entry = on_entry 𝓛 T.signature κs qs a (valss (types_at T.signature.params κs) (sp κs) a) in
    via 𝓤 (sep 𝓤 entry (fact 𝓤 (φ κs a))) (mono_r 𝓤 entry (tells κs a g))
    (needs 𝓤 (φ κs a) entry (k κs qs bounds a g are))))
