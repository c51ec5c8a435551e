-- Codes turned over one after the other: those in front of a place are turned over and those from it on are not yet.
use Prim.Native.Nat.{ℕ, ◌+◌, ◌≤◌, ◌<◌}
use mathlib.Core.Path.{◌≡◌, refl, sym, ap, ◌∙◌}
use mathlib.Core.List.{List, [], ◌∷◌, ◌++◌, append_assoc, append-nil}
use native.Mathlib.Omega.{arith}
use native.Mathlib.Numerals.{add-one}
use lib.ListN.{length, get_or, set, length-append}
use lib.Seq.{get_or-set_same}
use Rattle.pruned.specs.Nodes.{Node, code_limit}
use Rattle.pruned.specs.Loading.{turn_node, turn_nodes, turned_number, SmallCodes, code_small}
use Rattle.pruned.proofs.Turning.{turned_code_lem, turn_append}
use Rattle.pruned.proofs.Loadings.{turn_long}
use Rattle.at_once.specs.Codes.{HoldsCodes, no_code, code, SameCodes}
use Rattle.at_once.specs.Loading.{TurnJob, TurnedCodes}
use Rattle.at_once.proofs.Rooms.{stored_before, stored_behind, codes_join, same_itself, same_stored}

module _ {codes : List ℕ} {from to : ℕ} where
  pub record Turns (job : TurnJob codes from to) (now : List ℕ) (place : ℕ) : Type 0 where
    pub front : List Node
    pub rest : List Node
    pub whole : job.nodes ≡ front ++ rest
    pub small : SmallCodes rest
    pub place_is : place ≡ from + length front
    pub done : HoldsCodes now from (turn_nodes front)
    pub coming : HoldsCodes now place rest
    pub below : SameCodes from codes now

  module _ (job : TurnJob codes from to) where
    pub turns_start : Turns job codes from
    unfolding turn_nodes
    turns_start =
        record {
          front = [];
          rest = job.nodes;
          whole = refl;
          small = job.small;
          place_is = omega arith;
          done = no_code;
          coming = job.holds;
          below = same_itself;
        }

    module _ {now : List ℕ} {place : ℕ} (g : Turns job now place) where
      length_is : to ≡ place + length g.rest
      length_is = omega (arith, job.ends, ap length g.whole, length-append g.front g.rest, g.place_is)

      module _ (h : place < to) where
        pub inside : place < length now
        inside = omega (arith, job.inside, g.below.long)

        pub code_few : get_or now place 0 < code_limit
        code_few = by g.coming g.small length_is
          where
            by : {ns : List Node} → HoldsCodes now place ns → SmallCodes ns → to ≡ place + length ns → get_or now place 0 < code_limit
            by no_code s e = absurd (omega arith)
            by (code x hs) (code_small m s) e = omega (arith, x, m)

        pub turns_on : {x : ℕ} → x ≡ turned_number (get_or now place 0) → Turns job (set now place x) (place + 1)
        turns_on {x} e = by g.rest refl g.coming g.small
          where
            by : (ns : List Node) → g.rest ≡ ns → HoldsCodes now place ns → SmallCodes ns → Turns job (set now place x) (place + 1)
            by [] f c s = absurd (omega (arith, length_is, ap length f))
            by (n ∷ ns) f (code y hs) (code_small m s) =
                let p : place ≡ from + length (turn_nodes g.front) = g.place_is ∙ ap (λ (k : ℕ). from + k) (sym (turn_long g.front)) in
                rw (add-one place) (record {
                  front = g.front ++ (n ∷ []);
                  rest = ns;
                  whole = g.whole ∙ ap (λ (l : List Node). g.front ++ l) f ∙ sym (append_assoc g.front (n ∷ []) ns);
                  small = s;
                  place_is = omega (arith, g.place_is, length-append g.front (n ∷ []));
                  done = rw (turn_append g.front n) (codes_join (turn_nodes g.front) (turn_node n ∷ [])
                      (stored_behind x (omega (arith, p)) g.done)
                      (rw (← p) (code (get_or-set_same now place x 0 inside ∙ e ∙ ap turned_number y ∙ turned_code_lem n) no_code)));
                  coming = stored_before x (omega arith) hs;
                  below = same_stored x g.below (omega (arith, g.place_is));
                })

      pub turns_end : to ≤ place → TurnedCodes job now
      turns_end h = by g.rest refl
        where
          by : (ns : List Node) → g.rest ≡ ns → TurnedCodes job now
          by [] f =
              let w : job.nodes ≡ g.front = g.whole ∙ ap (λ (l : List Node). g.front ++ l) f ∙ append-nil g.front in
              record { holds = rw w g.done; below = g.below }
          by (n ∷ ns) f = absurd (omega (arith, length_is, ap length f))
