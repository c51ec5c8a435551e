-- The values over both halves of a block, the high half first or the low one: they are right for each half, and afterwards as they were. The values move up
-- into the high half and down out of it, so between the halves they move either way, and before and after them only where the high half comes first or last.
use Prim.Native.Nat.{ℕ, ◌+◌, ◌-◌, ◌/◌, ◌≤◌}
use mathlib.Core.Path.{◌≡◌, refl, sym, ◌∙◌, subst}
use mathlib.Core.Bool.{Bool, true, false, cond, not, false≢true}
use mathlib.Core.List.{List}
use native.Mathlib.Omega.{arith}
use lib.IntN.{ℤ}
use lib.ListN.{get_or, set}
use lib.Seq.{set-get_or, set-set}
use Rattle.csg.specs.Surfaces.{Surfaces}
use Rattle.at_once.specs.Codes.{SameCodes}
use Rattle.at_once.specs.Counting.{BlockJob}
use Rattle.at_once.specs.Moves.{ValuesAt, MoveJob, Moved, Unmoved}
use Rattle.at_once.proofs.Rooms.{same_itself}
use Rattle.at_once.proofs.Moving.{same_values, unmoved, raise_job, raised, back_job, back}

pub unmoved_then : {values values₁ values₂ : List ℤ} {rounds rounds₁ rounds₂ : List ℕ} → Unmoved values rounds values₁ rounds₁ →
    Unmoved values₁ rounds₁ values₂ rounds₂ → Unmoved values rounds values₂ rounds₂
unmoved_then m n = record { values_are = n.values_are ∙ m.values_are; rounds_are = n.rounds_are ∙ m.rounds_are }

pub turn_few : (test : Bool) {turn round : ℕ} → turn ≡ cond test (1 - round) round → round ≤ 1 → turn ≤ 1
turn_few true e h = omega arith
turn_few false e h = omega arith

module _ {surfaces : Surfaces} {axes : ℕ} {table lengths low side : List ℕ} {left : ℕ} {codes : List ℕ} {from count : ℕ}
    (job : BlockJob surfaces axes table lengths low side left codes from count left) (some : 1 ≤ left) {values : List ℤ} {rounds : List ℕ} {round : ℕ}
    (at : ValuesAt surfaces.rows low codes from count values rounds round) where
  abbrev axis : ℕ
  axis = get_or table (left - 1) 0

  abbrev near : ℕ
  near = get_or low axis 0

  abbrev half : ℕ
  half = get_or side axis 0 / 2

  abbrev MovedBy : Bool → List ℕ → ℕ → List ℤ → List ℕ → List ℤ → List ℕ → Type 0
  MovedBy up codes' r vs rs vs' rs' = Moved up surfaces.rows axis half codes' from count r vs rs vs' rs'

  abbrev Right : List ℕ → List ℕ → List ℤ → List ℕ → ℕ → Type 0
  Right lows codes' vs rs r = ValuesAt surfaces.rows lows codes' from count vs rs r

  -- into the half that comes first
  pub data Sooner : Bool → List ℤ → List ℕ → ℕ → Type 0 where
    high_first : {vs : List ℤ} {rs : List ℕ} → MovedBy true codes round values rounds vs rs → Sooner true vs rs (1 - round)
    low_first : {vs : List ℤ} {rs : List ℕ} → Unmoved values rounds vs rs → Sooner false vs rs round

  pub sooner : (backward : Bool) {vs : List ℤ} {rs : List ℕ} {turn : ℕ} → (backward ≡ true → MovedBy true codes round values rounds vs rs) →
      (backward ≡ false → Unmoved values rounds vs rs) → turn ≡ cond backward (1 - round) round → Sooner backward vs rs turn
  sooner true {vs} {rs} up stay t = subst (Sooner true vs rs) (sym t) (high_first (up refl))
  sooner false {vs} {rs} up stay t = subst (Sooner false vs rs) (sym t) (low_first (stay refl))

  pub sooner_values : {backward : Bool} {vs : List ℤ} {rs : List ℕ} {turn place : ℕ} → Sooner backward vs rs turn →
      place ≡ cond backward (near + half) near → Right (set low axis place) codes vs rs turn
  sooner_values (high_first up) e = rw e (raised job some at same_itself unmoved up)
  sooner_values (low_first m) e = rw (e, set-get_or low axis 0) (same_values same_itself m at)

  -- out of it into the other
  pub across_job : {backward : Bool} {vs vs' : List ℤ} {rs rs' codes' : List ℕ} {turn : ℕ} → Sooner backward vs rs turn → SameCodes (from + count) codes codes'
      →
      Unmoved vs rs vs' rs' → MoveJob surfaces.rows axis half codes' from count vs' rs' turn
  across_job (high_first up) s m = back_job job some at same_itself unmoved up s m
  across_job (low_first n) s m = raise_job job some at s (unmoved_then n m)

  pub data Later (codes' : List ℕ) : Bool → List ℤ → List ℕ → ℕ → Type 0 where
    low_last : {vs : List ℤ} {rs : List ℕ} → Unmoved values rounds vs rs → Later codes' true vs rs round
    high_last : {vs vs' : List ℤ} {rs rs' : List ℕ} → Unmoved values rounds vs rs → MovedBy true codes' round vs rs vs' rs' → Later codes' false vs' rs' (1 -
        round)

  pub later : {backward : Bool} {vs vs' vs'' : List ℤ} {rs rs' rs'' codes' : List ℕ} {turn : ℕ} → Sooner backward vs rs turn → SameCodes (from + count) codes
      codes' →
      Unmoved vs rs vs' rs' → MovedBy (not backward) codes' turn vs' rs' vs'' rs'' → Later codes' backward vs'' rs'' (1 - turn)
  later {vs'' = vs''} {rs'' = rs''} {codes' = codes'} (high_first up) s m down =
      let e : 1 - (1 - round) ≡ round = omega (arith, at.is_round) in
      subst (Later codes' true vs'' rs'') (sym e) (low_last (back job some at same_itself unmoved up s m down))
  later (low_first n) s m up = high_last (unmoved_then n m) up

  pub later_values : {backward : Bool} {vs : List ℤ} {rs low' codes' : List ℕ} {turn place other : ℕ} → Later codes' backward vs rs turn →
      SameCodes (from + count) codes codes' → place ≡ cond backward (near + half) near → low' ≡ set low axis place → other ≡ cond backward near (near + half) →
      Right (set low' axis other) codes' vs rs turn
  later_values {place = place} (low_last m) s d l e = rw (l, e, set-set low axis place near, set-get_or low axis 0) (same_values s m at)
  later_values {place = place} (high_last m up) s d l e = rw (l, e, set-set low axis place (near + half)) (raised job some at s m up)

  -- and back out of it
  pub last_job : {backward : Bool} {vs vs' : List ℤ} {rs rs' codes' codes'' : List ℕ} {turn : ℕ} → Later codes' backward vs rs turn → SameCodes (from + count)
      codes codes' →
      SameCodes (from + count) codes' codes'' → Unmoved vs rs vs' rs' → not backward ≡ true → MoveJob surfaces.rows axis half codes'' from count vs' rs' turn
  last_job (low_last m) s t n e = absurd (false≢true e)
  last_job (high_last m up) s t n e = back_job job some at s m up t n

  pub all_back : {backward : Bool} {vs vs' vs'' : List ℤ} {rs rs' rs'' codes' codes'' : List ℕ} {turn : ℕ} → Later codes' backward vs rs turn →
      SameCodes (from + count) codes codes' → SameCodes (from + count) codes' codes'' → Unmoved vs rs vs' rs' →
      (not backward ≡ true → MovedBy false codes'' turn vs' rs' vs'' rs'') → (not backward ≡ false → Unmoved vs' rs' vs'' rs'') → Unmoved values rounds vs'' rs''
  all_back (low_last m) s t n down stay = unmoved_then (unmoved_then m n) (stay refl)
  all_back (high_last m up) s t n down stay = back job some at s m up t n (down refl)
