-- `write_sixteen` by its three cases, with half as many digits in each half.
use mathlib.Core.Path.{refl, ◌∙◌}
use Prim.Native.Nat.{ℕ}
use lib.ListN.{length-set}
use Rattle.at_once.proofs.Texts.{white_stored, black_stored, low_roomy, high_roomy, both_stored}
use Rattle.bintree.specs.Shape.{open_symbol}
use Rattle.at_once.proofs.text.write_sixteen.Goals as goal

pub returns-then-word-eq0 : goal.returns-then-word-eq0
returns-then-word-eq0 c = white_stored c.requires c.if-word-eq0.true

pub returns-then-word-eq65535 : goal.returns-then-word-eq65535
returns-then-word-eq65535 c = black_stored c.requires c.if-word-eq0.false refl c.if-word-eq65535.true

pub write_eight-middle-requires : goal.write_eight-middle-requires
write_eight-middle-requires c = low_roomy c.requires c.if-word-eq0.false refl c.if-word-eq65535.false refl refl

pub write_eight-requires : goal.write_eight-requires
write_eight-requires c =
    high_roomy c.requires c.if-word-eq0.false refl
    c.if-word-eq65535.false refl refl c.write_eight-middle.ensures

pub shape_of-out : goal.shape_of-out
shape_of-out c =
    c.write_eight.auto.out ∙ c.write_eight-middle.auto.out
    ∙ length-set {A = ℕ} c.args.out.now c.args.at open_symbol

pub returns : goal.returns
returns c =
    both_stored c.requires
    c.if-word-eq0.false refl
    c.if-word-eq65535.false refl refl
    c.write_eight-middle.ensures c.write_eight.ensures
