-- Nodes turned over one after the other: those in front of a place are turned over and those from it on are not yet. Turned over, a node has the code of its
-- other side, constant or operator, and the same values.
use Prim.Native.Nat.{ℕ, suc, ◌+◌, ◌*◌, ◌-◌, ◌%◌, ◌≤◌, ◌<◌}
use mathlib.Core.Path.{◌≡◌, refl, sym, ap, ◌∙◌}
use mathlib.Core.Bool.{Bool, true, false, cond}
use mathlib.Core.List.{List, [], ◌∷◌, ◌++◌, append_assoc, append-nil}
use native.Mathlib.Omega.{arith}
use native.Mathlib.Numerals.{add-one}
use borrow.Author.Tests.{le-ltb}
use lib.Dec.{eqb, ltb}
use lib.IntN.{ℤ, pos, nat_abs}
use lib.ListN.{length, set, length-append, length-set}
use lib.Seq.{get_or-set_same, get_or-set_other}
use mir.Syntax.{w64}
use mir.Val.{to_z}
use Rattle.lemmas.proofs.Machine.{near_cast}
use Rattle.universe.specs.declared.Block.{Block}
use Rattle.bintree.specs.declared.Colour.TheVariants.{White, Black}
use Rattle.csg.specs.Surfaces.{Surfaces, Surface, halfspace, ball}
use Rattle.pruned.specs.Nodes.{Node, of_colour, of_side, joining, word_of, bit_of, node_code, least_of, greatest_of, number_at, Holds, nothing, node}
use Rattle.pruned.specs.Nodes.{CodeAt, code_limit}
use Rattle.pruned.specs.Loading.{turn_node, turn_nodes, turned_number, SmallCodes, code_small, Turning, Turned}
use Rattle.pruned.proofs.Memory.{holds_same, holds_join}

word_big : (s : Surface) → 256 ≤ word_of s
word_big (halfspace i) = omega arith
word_big (ball i) = omega arith

-- ---- a node turned over
turned_side : (turned : Bool) (w : ℕ) → 256 ≤ w → turned_number (2 * w + bit_of turned) ≡ 2 * w + bit_of (cond turned false true)
turned_side true w h =
    let e : (2 * w + 1) % 2 ≡ 1 = omega arith in
    rw (le-ltb (2 * w + 1) 3 (omega arith), le-ltb (2 * w + 1) 8 (omega arith), e) (omega arith)
turned_side false w h =
    let e : (2 * w + 0) % 2 ≡ 0 = omega arith in
    rw (le-ltb (2 * w + 0) 3 (omega arith), le-ltb (2 * w + 0) 8 (omega arith), e) (omega arith)

pub turned_code_lem : (n : Node) → turned_number (node_code n) ≡ node_code (turn_node n)
turned_code_lem (of_colour White) = refl
turned_code_lem (of_colour Black) = refl
turned_code_lem (joining true) = refl
turned_code_lem (joining false) = refl
turned_code_lem (of_side true s) = turned_side true (word_of s) (word_big s)
turned_code_lem (of_side false s) = turned_side false (word_of s) (word_big s)

module _ (surfaces : Surfaces) (b : Block) where
  same_values : (n : Node) → (least_of surfaces b n ≡ least_of surfaces b (turn_node n)) × (greatest_of surfaces b n ≡ greatest_of surfaces b (turn_node n))
  same_values (of_colour c) = (refl, refl)
  same_values (joining meet) = (refl, refl)
  same_values (of_side turned (halfspace i)) = (refl, refl)
  same_values (of_side turned (ball i)) = (refl, refl)

pub turn_append : (ns : List Node) (n : Node) → turn_nodes (ns ++ (n ∷ [])) ≡ turn_nodes ns ++ (turn_node n ∷ [])
unfolding turn_nodes
turn_append [] n = refl
turn_append (m ∷ ns) n = ap (λ (l : List Node). turn_node m ∷ l) (turn_append ns n)

turn_long : (ns : List Node) → length (turn_nodes ns) ≡ length ns
unfolding turn_nodes
turn_long [] = refl
turn_long (n ∷ ns) = ap suc (turn_long ns)

-- ---- the loop
module _ {work : List ℤ} {from to : ℕ} where
  pub record Turns (job : Turning work from to) (now : List ℤ) (place : ℕ) : Type 0 where
    pub front : List Node
    pub rest : List Node
    pub whole : job.nodes ≡ front ++ rest
    pub small : SmallCodes rest
    pub place_is : place ≡ from + length front
    pub done : Holds job.surfaces job.block now from (turn_nodes front)
    pub coming : Holds job.surfaces job.block now place rest
    pub same_below : (k : ℕ) → k < 3 * from → number_at now k ≡ number_at work k
    pub long : length now ≡ length work

  module _ (job : Turning work from to) where
    pub turns_start : Turns job work from
    unfolding turn_nodes
    turns_start =
        record {
          front = [];
          rest = job.nodes;
          whole = refl;
          small = job.small;
          place_is = omega arith;
          done = nothing;
          coming = job.holds;
          same_below = λ k h. refl;
          long = refl;
        }

    module _ {now : List ℤ} {place : ℕ} (g : Turns job now place) where
      length_is : to ≡ place + length g.rest
      length_is = omega (arith, job.ends, ap length g.whole, length-append g.front g.rest, g.place_is)

      module _ (h : place < to) where
        pub inside : 3 * place + 2 < length now
        inside = omega (arith, job.inside, g.long)

        pub code_there : CodeAt now place
        code_there = by g.coming g.small length_is
          where
            by : {ns : List Node} → Holds job.surfaces job.block now place ns → SmallCodes ns → to ≡ place + length ns → CodeAt now place
            by nothing s e = absurd (omega arith)
            by (node {n = n} x hs) (code_small m s) e = record { code = node_code n; small = omega arith; inside = inside; is = x.code }

        pub code_few : nat_abs (number_at now (3 * place)) + 1 < code_limit
        code_few = by g.coming g.small length_is
          where
            by : {ns : List Node} → Holds job.surfaces job.block now place ns → SmallCodes ns → to ≡ place + length ns →
                nat_abs (number_at now (3 * place)) + 1 < code_limit
            by nothing s e = absurd (omega arith)
            by (node {n = n} x hs) (code_small m s) e = rw (ap nat_abs x.code) m

        pub turns_on : {x : ℕ} → x ≡ turned_number (nat_abs (number_at now (3 * place))) → Turns job (set now (3 * place) (pos x)) (place + 1)
        turns_on {x} e = by g.rest refl g.coming g.small
          where
            other : (k : ℕ) → (k ≡ 3 * place → ⊥) → number_at (set now (3 * place) (pos x)) k ≡ number_at now k
            other k d = get_or-set_other now (3 * place) k (pos x) (pos 0) d

            by : (ns : List Node) → g.rest ≡ ns → Holds job.surfaces job.block now place ns → SmallCodes ns
                → Turns job (set now (3 * place) (pos x)) (place + 1)
            by [] f c s = absurd (omega (arith, length_is, ap length f))
            by (n ∷ ns) f (node y hs) (code_small m s) =
                let v = same_values job.surfaces job.block n in
                let p : place ≡ from + length (turn_nodes g.front) = g.place_is ∙ ap (λ (k : ℕ). from + k) (sym (turn_long g.front)) in
                rw (add-one place) (record {
                  front = g.front ++ (n ∷ []);
                  rest = ns;
                  whole = g.whole ∙ ap (λ (l : List Node). g.front ++ l) f ∙ sym (append_assoc g.front (n ∷ []) ns);
                  small = s;
                  place_is = omega (arith, g.place_is, length-append g.front (n ∷ []));
                  done = rw (turn_append g.front n) (holds_join (turn_nodes g.front) (turn_node n ∷ [])
                      (holds_same (λ k a b. other k (λ q. omega (arith, p))) g.done)
                      (rw (← p) (node
                      (record {
                        code = get_or-set_same now (3 * place) (pos x) (pos 0) (omega (arith, inside)) ∙ ap pos (e
                            ∙ ap (λ (z : ℤ). turned_number (nat_abs z)) y.code ∙ turned_code_lem n);
                        low = other (3 * place + 1) (λ q. omega arith) ∙ y.low ∙ v.0;
                        high = other (3 * place + 2) (λ q. omega arith) ∙ y.high ∙ v.1;
                      })
                      nothing)));
                  coming = holds_same (λ k a b. other k (λ q. omega arith)) hs;
                  same_below = λ k a. other k (λ q. omega (arith, g.place_is)) ∙ g.same_below k a;
                  long = length-set now (3 * place) (pos x) ∙ g.long;
                })

      pub turns_end : to ≤ place → Turned job now
      turns_end h = by g.rest refl
        where
          by : (ns : List Node) → g.rest ≡ ns → Turned job now
          by [] f =
              let w : job.nodes ≡ g.front = g.whole ∙ ap (λ (l : List Node). g.front ++ l) f ∙ append-nil g.front in
              record { holds = rw w g.done; same_below = g.same_below; long = g.long }
          by (n ∷ ns) f = absurd (omega (arith, length_is, ap length f))

-- ---- a code turned over is small, so that it is the number that is stored
pub turned_few : (code : ℕ) → code + 1 < code_limit → turned_number code < code_limit
turned_few code h = by (ltb code 3) (ltb code 8) (eqb (code % 2) 0)
  where
    by : (p q r : Bool) → cond p (2 - code) (cond q (10 - code) (cond r (code + 1) (code - 1))) < code_limit
    by true q r = omega arith
    by false true r = omega arith
    by false false true = omega arith
    by false false false = omega arith

pub stored_number : (now : List ℤ) (k : ℕ) {x : ℕ} → x < code_limit → set now k (to_z w64 x) ≡ set now k (pos x)
stored_number now k {x} h = ap (set now k) (near_cast x code_limit (omega arith) tt).same
