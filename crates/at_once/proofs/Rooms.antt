-- Codes in their room: what a store changes, and that codes which no store meets stay.
use Prim.Native.Nat.{ℕ, suc, ◌+◌, ◌≤◌, ◌<◌}
use mathlib.Core.Path.{◌≡◌, refl, ◌∙◌}
use mathlib.Core.List.{List, [], ◌∷◌, ◌++◌}
use native.Mathlib.Omega.{arith}
use lib.ListN.{length, get_or, set, length-set}
use lib.Seq.{get_or-set_same, get_or-set_other}
use Rattle.pruned.specs.Nodes.{Node, node_code}
use Rattle.at_once.specs.Codes.{HoldsCodes, no_code, code, SameCodes}

-- where the numbers of their places are the same
pub codes_same : {before after : List ℕ} {at : ℕ} {ns : List Node} → ((k : ℕ) → at ≤ k → k < at + length ns → get_or after k 0 ≡ get_or before k 0) →
    HoldsCodes before at ns → HoldsCodes after at ns
codes_same f no_code = no_code
codes_same {at = at} f (code {ns = ns} e hs) = code (f at (omega arith) (omega arith) ∙ e) (codes_same (λ k a b. f k (omega arith) (omega arith)) hs)

-- a store behind them, and one in front of them
pub stored_behind : {room : List ℕ} {at place : ℕ} {ns : List Node} (x : ℕ) → at + length ns ≤ place → HoldsCodes room at ns →
    HoldsCodes (set room place x) at ns
stored_behind {room} {at} {place} x l h = codes_same (λ k a b. get_or-set_other room place k x 0 (λ e. omega arith)) h

pub stored_before : {room : List ℕ} {at place : ℕ} {ns : List Node} (x : ℕ) → place < at → HoldsCodes room at ns → HoldsCodes (set room place x) at ns
stored_before {room} {at} {place} x l h = codes_same (λ k a b. get_or-set_other room place k x 0 (λ e. omega arith)) h

-- in front of others, the others behind them, and both
pub codes_front : {room : List ℕ} {at : ℕ} (ns ms : List Node) → HoldsCodes room at (ns ++ ms) → HoldsCodes room at ns
codes_front [] ms h = no_code
codes_front (n ∷ ns) ms (code e h) = code e (codes_front ns ms h)

pub codes_behind : {room : List ℕ} {at : ℕ} (ns ms : List Node) → HoldsCodes room at (ns ++ ms) → HoldsCodes room (at + length ns) ms
codes_behind {at = at} [] ms h = let e : at + 0 ≡ at = omega arith in rw e h
codes_behind {at = at} (n ∷ ns) ms (code x h) = let e : at + suc (length ns) ≡ suc at + length ns = omega arith in rw e (codes_behind ns ms h)

pub codes_join : {room : List ℕ} {at : ℕ} (ns ms : List Node) → HoldsCodes room at ns → HoldsCodes room (at + length ns) ms → HoldsCodes room at (ns ++ ms)
codes_join {at = at} [] ms h g = let e : at + 0 ≡ at = omega arith in rw e at g
codes_join {at = at} (n ∷ ns) ms (code x h) g =
    let e : at + suc (length ns) ≡ suc at + length ns = omega arith in
    code x (codes_join ns ms h (rw e at g))

-- one more, stored behind them
pub codes_more : {room : List ℕ} {at end x : ℕ} (ns : List Node) (n : Node) → HoldsCodes room at ns → end ≡ at + length ns → end < length room →
    x ≡ node_code n → HoldsCodes (set room end x) at (ns ++ (n ∷ []))
codes_more {room} {at} {end} {x} ns n h e inside c =
    codes_join ns (n ∷ []) (stored_behind x (omega arith) h) (rw (← e) (code (get_or-set_same room end x 0 inside ∙ c) no_code))

-- rooms that are the same below a place
pub same_itself : {place : ℕ} {room : List ℕ} → SameCodes place room room
same_itself = record { same = λ k l. refl; long = refl }

pub same_stored : {place at : ℕ} {before now : List ℕ} (x : ℕ) → SameCodes place before now → place ≤ at → SameCodes place before (set now at x)
same_stored {place} {at} {before} {now} x s l =
    record {
      same = λ k m. get_or-set_other now at k x 0 (λ e. omega arith) ∙ s.same k m;
      long = length-set now at x ∙ s.long;
    }
