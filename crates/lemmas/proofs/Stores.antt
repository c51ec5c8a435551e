-- Stores: a place that is put back, runs of stores one after another and from the first place on, and copies.
use mathlib.Core.Path.{◌≡◌, refl, sym, ap, ◌∙◌}
use mathlib.Core.List.{List, [], ◌∷◌, ◌++◌}
use Prim.Native.Nat.{ℕ, zero, suc, ◌+◌, ◌-◌, ◌^◌, ◌≤◌, ◌<◌, min}
use native.Mathlib.Omega.{arith}
use native.Mathlib.Numerals.{add-one}
use lib.ListN.{length, get_or, set, take, drop, length-set}
use lib.Seq.{sets, length-take-le, take-nil, take-suc, set_out, set_comm, set-get_or, sets-eq, take_at}

-- ---- a place that is put back
set_twice : (l : List ℕ) (i x y : ℕ) → set (set l i x) i y ≡ set l i y
set_twice [] i x y = refl
set_twice (a ∷ l) zero x y = refl
set_twice (a ∷ l) (suc i) x y = ap (λ (k : List ℕ). a ∷ k) (set_twice l i x y)

pub restored : (l : List ℕ) (i x : ℕ) → set (set l i x) i (get_or l i 0) ≡ l
restored l i x = set_twice l i x (get_or l i 0) ∙ set-get_or l i 0

-- ---- runs of stores

pub set_sets : (vs l : List ℕ) (i j x : ℕ) → i < j → set (sets l j vs) i x ≡ sets (set l i x) j vs
set_sets [] l i j x h = refl
set_sets (v ∷ vs) l i j x h =
    let k : i < suc j = omega arith in
    set_sets vs (set l j v) i (suc j) x k ∙ ap (λ z. sets z (suc j) vs) (set_comm l j i v x (λ e. omega arith))

pub sets_append : (us vs l : List ℕ) (i : ℕ) → sets (sets l i us) (i + length us) vs ≡ sets l i (us ++ vs)
sets_append [] vs l i = let e : i + 0 ≡ i = omega arith in rw e
sets_append (u ∷ us) vs l i =
    let e : i + suc (length us) ≡ suc i + length us = omega arith in
    rw e (sets_append us vs (set l i u) (suc i))

pub sets_first : (vs l : List ℕ) → length vs ≤ length l → sets l 0 vs ≡ vs ++ drop (length vs) l
sets_first vs l h =
    let e : 0 + length vs ≡ length vs = omega arith in
    sets-eq vs l 0 (omega arith) ∙ ap (λ k. vs ++ drop k l) e

-- what was stored stands there
pub sets_front : (vs l : List ℕ) → length vs ≤ length l → take (length vs) (sets l 0 vs) ≡ vs
sets_front vs l h = ap (take (length vs)) (sets_first vs l h) ∙ take_at vs (drop (length vs) l) (length vs) refl

-- one store more
sets_next : (vs l : List ℕ) (at i : ℕ) → i < length vs → set (sets l at (take i vs)) (at + i) (get_or vs i 0) ≡ sets l at (take (suc i) vs)
sets_next vs l at i h =
    ap (λ (k : ℕ). set (sets l at (take i vs)) (at + k) (get_or vs i 0)) (sym (length-take-le i vs (omega arith)))
    ∙ sets_append (take i vs) (get_or vs i 0 ∷ []) l at
    ∙ ap (sets l at) (sym (take-suc vs i 0 h))

-- stores past the end are none
sets_out : (vs l : List ℕ) (i : ℕ) → length l ≤ i → sets l i vs ≡ l
sets_out [] l i h = refl
sets_out (v ∷ vs) l i h = sets_out vs (set l i v) (suc i) (omega (arith, length-set l i v)) ∙ set_out l i v h

-- of a run of stores, as many as there is room for
sets_fitting : (vs l : List ℕ) (i n : ℕ) → min (length vs) (length l - i) ≤ n → sets l i (take n vs) ≡ sets l i vs
sets_fitting [] l i n h = ap (sets l i) (take-nil n)
sets_fitting (v ∷ vs) l i zero h = sym (sets_out (v ∷ vs) l i (omega arith))
sets_fitting (v ∷ vs) l i (suc n) h = sets_fitting vs (set l i v) (suc i) n (omega (arith, length-set l i v))

-- ---- copies
-- the first i of as many values as there is room for are copied to a place
pub record Copying (from before : List ℕ) (at count i : ℕ) (now : List ℕ) : Type 0 where
  pub start : at < length before
  pub fitting : count ≡ min (length from) (length before - at)
  pub few : i ≤ count
  pub same : now ≡ sets before at (take i from)
  pub long : length now ≡ length before

module _ (from before : List ℕ) (at : ℕ) where
  pub copying_none : length before ≤ at → before ≡ sets before at from
  copying_none h = sym (sets_out from before at h)

  module _ (count : ℕ) where
    pub copying_start : at < length before → count ≡ min (length from) (length before - at) → Copying from before at count 0 before
    copying_start h e = record { start = h; fitting = e; few = omega arith; same = refl; long = refl }

    module _ (i : ℕ) (now : List ℕ) (s : Copying from before at count i now) where
      pub copying_next : i < count → Copying from before at count (i + 1) (set now (at + i) (get_or from i 0))
      copying_next h =
          record {
            start = s.start;
            fitting = s.fitting;
            few = omega arith;
            same = rw (s.same, add-one) (sets_next from before at i (omega (arith, s.fitting)));
            long = length-set now (at + i) (get_or from i 0) ∙ s.long;
          }

      pub copying_end : count ≤ i → now ≡ sets before at from
      copying_end h = s.same ∙ sets_fitting from before at i (omega (arith, s.fitting))

      pub copying_kept : length now ≡ length before
      copying_kept = s.long

      pub copying_read : i < count → i < length from
      copying_read h = omega (arith, s.fitting)

      pub copying_write : i < count → at + i < length now
      copying_write h = omega (arith, s.start, s.fitting, s.long)

      pub copying_place : i < count → length before < 2 ^ 64 → at + i < 2 ^ 64
      copying_place h l = omega (arith, s.start, s.fitting)
