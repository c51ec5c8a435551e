-- Axis by axis: the last axis decides where the two before it are in order.
use Rattle.std.proofs.Common.{◌≡◌, Bool, true, ◌&&◌, int_le, rules, ◌∙◌, sym}
use Rattle.standin.proofs.in_order.Goals.{then-a-b, else-a-b}
use Rattle.standin.proofs.in_order.Goals as goal

by_last : (P Q R : Bool) {p q r v : Bool} → p ≡ P → q ≡ Q → r ≡ R → p ≡ true → v ≡ q → v ≡ true → r ≡ P && Q && R
by_last P Q R e f g x y t = let q = sym f ∙ sym y ∙ t in rw (g, ← e, x, q)

pub returns-then-a-b-2 : goal.returns-then-a-b-2
returns-then-a-b-2 c =
    let a = c.args.a in
    let b = c.args.b in
    elim c.if-a-b.branch [
      | then-a-b w ↦
          by_last (int_le a.x b.x) (int_le a.y b.y) (int_le a.z b.z) (search rules) (search rules) (search rules) w.if-a-b.true w.value-is c.if-a-b-2.true
      | else-a-b w ↦ absurd (cc)
    ]
