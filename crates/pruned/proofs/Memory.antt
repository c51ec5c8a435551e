-- Nodes in the work room, number by number: what a store changes, and that nodes which no store meets stay.
use Prim.Native.Nat.{ℕ, suc, ◌+◌, ◌*◌, ◌≤◌, ◌<◌}
use mathlib.Core.Path.{◌≡◌, ap, ◌∙◌}
use mathlib.Core.List.{List, [], ◌∷◌, ◌++◌}
use native.Mathlib.Omega.{arith}
use lib.IntN.{ℤ, pos}
use lib.ListN.{length, set, length-set}
use lib.Seq.{get_or-set_same, get_or-set_other}
use Rattle.lemmas.proofs.Machine.{near}
use Rattle.universe.specs.declared.Block.{Block}
use Rattle.csg.specs.Surfaces.{Surfaces}
use Rattle.pruned.specs.Nodes.{Node, node_code, least_of, greatest_of, number_at, stored, Holds, nothing, node, code_limit}
use Rattle.pruned.proofs.Moving.{held}

pub code_held : {x : ℤ} {k : ℕ} → x ≡ pos k → k < code_limit → held x ≡ pos k
code_held {x} {k} e h = ap held e ∙ (near {x = pos k} {b = code_limit} (record { most = omega arith }) tt).same

-- ---- a store of a node
module _ (work : List ℤ) (at : ℕ) (c l h : ℤ) where
  pub stored_long : length (stored work at c l h) ≡ length work
  stored_long = simp length-set

  pub stored_below : (k : ℕ) → k < 3 * at → number_at (stored work at c l h) k ≡ number_at work k
  stored_below k b =
      get_or-set_other (set (set work (3 * at) c) (3 * at + 1) l) (3 * at + 2) k h (pos 0) (λ e. omega arith)
      ∙ get_or-set_other (set work (3 * at) c) (3 * at + 1) k l (pos 0) (λ e. omega arith)
      ∙ get_or-set_other work (3 * at) k c (pos 0) (λ e. omega arith)

  pub stored_above : (k : ℕ) → 3 * at + 2 < k → number_at (stored work at c l h) k ≡ number_at work k
  stored_above k b =
      get_or-set_other (set (set work (3 * at) c) (3 * at + 1) l) (3 * at + 2) k h (pos 0) (λ e. omega arith)
      ∙ get_or-set_other (set work (3 * at) c) (3 * at + 1) k l (pos 0) (λ e. omega arith)
      ∙ get_or-set_other work (3 * at) k c (pos 0) (λ e. omega arith)

  module _ (inside : 3 * at + 2 < length work) where
    pub stored_code : number_at (stored work at c l h) (3 * at) ≡ c
    stored_code =
        get_or-set_other (set (set work (3 * at) c) (3 * at + 1) l) (3 * at + 2) (3 * at) h (pos 0) (λ e. omega arith)
        ∙ get_or-set_other (set work (3 * at) c) (3 * at + 1) (3 * at) l (pos 0) (λ e. omega arith)
        ∙ get_or-set_same work (3 * at) c (pos 0) (omega arith)

    pub stored_low : number_at (stored work at c l h) (3 * at + 1) ≡ l
    stored_low =
        get_or-set_other (set (set work (3 * at) c) (3 * at + 1) l) (3 * at + 2) (3 * at + 1) h (pos 0) (λ e. omega arith)
        ∙ get_or-set_same (set work (3 * at) c) (3 * at + 1) l (pos 0) (omega (arith, length-set work (3 * at) c))

    pub stored_high : number_at (stored work at c l h) (3 * at + 2) ≡ h
    stored_high =
        get_or-set_same (set (set work (3 * at) c) (3 * at + 1) l) (3 * at + 2) h (pos 0)
        (omega (arith, length-set work (3 * at) c, length-set (set work (3 * at) c) (3 * at + 1) l))

-- ---- nodes that are held
module _ {surfaces : Surfaces} {b : Block} where
  -- where the numbers of their places are the same
  pub holds_same : {before after : List ℤ} {at : ℕ} {ns : List Node} →
      ((k : ℕ) → 3 * at ≤ k → k < 3 * (at + length ns) → number_at after k ≡ number_at before k) → Holds surfaces b before at ns → Holds surfaces b after at ns
  holds_same f nothing = nothing
  holds_same {at = at} f (node {ns = ns} n hs) =
      node
      (record {
        code = f (3 * at) (omega arith) (omega arith) ∙ n.code;
        low = f (3 * at + 1) (omega arith) (omega arith) ∙ n.low;
        high = f (3 * at + 2) (omega arith) (omega arith) ∙ n.high;
      })
      (holds_same (λ k a c. f k (omega arith) (omega arith)) hs)

  -- in front of others, and the others behind them
  pub holds_front : {work : List ℤ} {at : ℕ} (ns ms : List Node) → Holds surfaces b work at (ns ++ ms) → Holds surfaces b work at ns
  holds_front [] ms h = nothing
  holds_front (n ∷ ns) ms (node x h) = node x (holds_front ns ms h)

  pub holds_join : {work : List ℤ} {at : ℕ} (ns ms : List Node) → Holds surfaces b work at ns → Holds surfaces b work (at + length ns) ms →
      Holds surfaces b work at (ns ++ ms)
  holds_join {at = at} [] ms h g = let e : at + 0 ≡ at = omega arith in rw e at g
  holds_join {at = at} (n ∷ ns) ms (node x h) g =
      let e : at + suc (length ns) ≡ suc at + length ns = omega arith in
      node x (holds_join ns ms h (rw e at g))

  -- one more, stored behind them
  pub holds_more : {work : List ℤ} {at end : ℕ} (ns : List Node) (n : Node) → Holds surfaces b work at ns → end ≡ at + length ns → 3 * end + 2 < length work →
      Holds surfaces b (stored work end (pos (node_code n)) (least_of surfaces b n) (greatest_of surfaces b n)) at (ns ++ (n ∷ []))
  holds_more {work} {at} {end} ns n h e inside =
      let c = pos (node_code n) in
      let l = least_of surfaces b n in
      let g = greatest_of surfaces b n in
      holds_join ns (n ∷ [])
      (holds_same (λ k p q. stored_below work end c l g k (omega arith)) h)
      (rw (← e) (node
      (record { code = stored_code work end c l g inside; low = stored_low work end c l g inside; high = stored_high work end c l g inside })
      nothing))
