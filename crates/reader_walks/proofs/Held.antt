-- What a `Reader` owns, for the walks of the functions over it. A `Reader` is Copy, so what it owns is had twice.
--     apart     what a function that takes a reader has at entry gives what a function that takes a slice and a
--         number asks, and the reader is kept
--     moved     what a reader owns, with another number in the place of its own
--     lent, lent_kept     what a call left, a reader and the tokens, is what a function that takes a reader has at
--         entry; the reader is given away, or kept
-- Assumes `Logic`.
use Rattle.hand_proofs.proofs.Names.{◌≡◌, refl, ℕ, ◌<◌, ◌^◌, List, [], ◌∷◌, length, Ura, named, w64, Val, vint, ent}
use Rattle.hand_proofs.proofs.Names.{sep, Lft, Share, Fml, ftrue, flft, Logic, sem, Lfts, ‵, ◌⊛◌, ⋆, mean}
use Rattle.hand_proofs.proofs.Names.{given, ◌$◌, ◌∵◌, !, qed, by, move, drop, use1, split, join, learn, fsplit, fjoin}
use Rattle.hand_proofs.proofs.Names.{frame, done, RattleType, owns, Is, uint_Makes, u8, usize, Bor, named_lft}
use Rattle.hand_proofs.proofs.Names.{slice_val, ShrSlice, owned, nothing}
use denote.Struct.Declared.{Declared}
use denote.Struct.Laws as LL
use denote.Struct.Rest.{all_own, field_own, rest, own_open, own_out, own_put}
use Rattle.scene_fields.specs.declared.reader.Reader.{Reader}
use Rattle.scene_fields.specs.contracts.reader.Reader as T
use Rattle.scene_fields.proofs.reader.Reader.TheLaws as T'

-- the struct's type over the signature's lifetimes, and its laws
abbrev pub B : Lfts 1 → RattleType
B κs = T.the_row (named_lft 1 0 tt κs)

abbrev pub D : Lfts 1 → Declared
D κs = T.the_type (named_lft 1 0 tt κs)

abbrev pub L : (κs : Lfts 1) → LL.Laws (D κs)
L κs = T'.the_laws (named_lft 1 0 tt κs)

-- what a reader owns at a machine value, and at its own
abbrev pub OwnAt : Lft → Reader → Val → Fml
OwnAt κ d u = (B (κ, tt)).own_val d (u ∷ [])

abbrev pub Own : Lft → Reader → Fml
Own κ d = OwnAt κ d (T'.lowered d)

-- the machine values of its two fields
abbrev pub fields : Reader → List Val × (List Val × Unit {0})
fields d = (slice_val d.scene.ref_ptr (length d.scene.now) ∷ [], (vint w64 d.at ∷ [], tt))

module _ {M : Type 1} {𝓤 : Ura M} (𝓛 : Logic 𝓤) (κ : Lft) (d : Reader) where
  pub twice : (u : Val) → ent 𝓤 (sem 𝓛 (OwnAt κ d u)) (sep 𝓤 (sem 𝓛 (OwnAt κ d u)) (sem 𝓛 (OwnAt κ d u)))
  twice u = (LL.copy (D (κ, tt)) (T'.the_copy (named_lft 1 0 tt (κ, tt))) 𝓛).twice d (u ∷ [])

  pub apart : (q : Share) → d.at < 2 ^ 64
      → ent 𝓤 (⋆ 𝓛 ((‵ (flft κ q) ⊛ ‵ ftrue) ∷ ‵ (owns (B (κ, tt) ∷ []) (d, tt) (T'.lowered d ∷ [], tt)) ∷ []))
      (mean 𝓛
      (((‵ (flft κ q) ⊛ ‵ ftrue) ⊛ ‵ (owns (ShrSlice (named 0) κ u8 ∷ usize ∷ []) (d.scene, (d.at, tt)) (fields d)))
      ⊛ ‵ (Own κ d)))
  apart q fits =
      let values : Bor (List ℕ) × (ℕ × Unit {0}) = (d.scene, (d.at, tt)) in
      let parts = (D (κ, tt)).parts in
      qed 𝓛 ((‵ (flft κ q) ⊛ ‵ ftrue) ∷ ‵ (owns (B (κ, tt) ∷ []) (d, tt) (T'.lowered d ∷ [], tt)) ∷ []) ∵
      move ! (1 ∷ []) $ fsplit ! $ move ! (1 ∷ []) $ drop ! $
      use1 𝓛 (‵ (Own κ d) ⊛ ‵ (Own κ d)) (twice (T'.lowered d)) $ split ! $
      use1 𝓛 (given (T'.lowered d ∷ [] ≡ T'.lowered d ∷ []) (‵ (all_own parts (L (κ, tt)) values)))
      (own_open 𝓛 (D (κ, tt)) (L (κ, tt)) values (T'.lowered d)) $
      learn ! (λ _. use1 𝓛 (‵ (field_own parts (L (κ, tt)) 0 d.scene) ⊛ ‵ (rest parts (L (κ, tt)) 0 values))
      (own_out 𝓛 parts (L (κ, tt)) 0 values) $ split ! $
      -- [what scene owns; what at owns; what the struct owns; the token]
      move ! (1 ∷ []) $ drop ! $ nothing ! $ owned ! usize (Is usize) (uint_Makes 𝓛 w64) d.at _ (refl, fits) $
      fjoin ! $
      move ! (1 ∷ 0 ∷ []) $ fjoin ! $ move ! (2 ∷ 0 ∷ []) $ join ! $ frame ! $ done !)

  pub moved : (n : ℕ) → n < 2 ^ 64
      → ent 𝓤 (sem 𝓛 (Own κ d)) (sem 𝓛 (Own κ (record { scene = d.scene; at = n })))
  moved n fits =
      qed 𝓛 (‵ (Own κ d) ∷ []) ∵ owned ! usize (Is usize) (uint_Makes 𝓛 w64) n _ (refl, fits) $
      move ! (1 ∷ 0 ∷ []) $
      by ! (own_put 𝓛 (D (κ, tt)) (L (κ, tt)) 1 (d.scene, (d.at, tt)) n (T'.lowered d))

  pub lent : (q : Share) (u : Val)
      → ent 𝓤 (⋆ 𝓛 (‵ (OwnAt κ d u) ∷ (‵ (flft κ q) ⊛ ‵ ftrue) ∷ []))
      (⋆ 𝓛 ((‵ (flft κ q) ⊛ ‵ ftrue) ∷ ‵ (owns (B (κ, tt) ∷ []) (d, tt) (u ∷ [], tt)) ∷ []))
  lent q u = qed 𝓛 (‵ (OwnAt κ d u) ∷ (‵ (flft κ q) ⊛ ‵ ftrue) ∷ []) ∵ nothing ! $ move ! (1 ∷ 0 ∷ []) $ fjoin ! $
      move ! (1 ∷ 0 ∷ []) $ done !

  pub lent_kept : (q : Share) (u : Val) → ent 𝓤 (⋆ 𝓛 (‵ (OwnAt κ d u) ∷ (‵ (flft κ q) ⊛ ‵ ftrue) ∷ []))
      (mean 𝓛 (((‵ (flft κ q) ⊛ ‵ ftrue) ⊛ ‵ (owns (B (κ, tt) ∷ []) (d, tt) (u ∷ [], tt))) ⊛ ‵ (OwnAt κ d u)))
  lent_kept q u =
      qed 𝓛 (‵ (OwnAt κ d u) ∷ (‵ (flft κ q) ⊛ ‵ ftrue) ∷ []) ∵ use1 𝓛 (‵ (OwnAt κ d u) ⊛ ‵ (OwnAt κ d u)) (twice u) $
      split ! $
      nothing ! $ move ! (1 ∷ 0 ∷ []) $ fjoin ! $ move ! (2 ∷ 0 ∷ []) $ join ! $ frame ! $ done !
