-- `write_eight` by its three cases, with half as many digits in each half.
use mathlib.Core.Path.{refl, ◌∙◌}
use Prim.Native.Nat.{ℕ}
use lib.ListN.{length-set}
use Rattle.at_once.proofs.Texts.{white_stored, black_stored, low_roomy, high_roomy, both_stored}
use Rattle.bintree.specs.Shape.{open_symbol}
use Rattle.at_once.proofs.text.write_eight.Goals as goal

pub returns-then-word-eq0 : goal.returns-then-word-eq0
returns-then-word-eq0 c = white_stored c.requires c.if-word-eq0.true

pub returns-then-word-eq255 : goal.returns-then-word-eq255
returns-then-word-eq255 c = black_stored c.requires c.if-word-eq0.false refl c.if-word-eq255.true

pub write_four-middle-requires : goal.write_four-middle-requires
write_four-middle-requires c = low_roomy c.requires c.if-word-eq0.false refl c.if-word-eq255.false refl refl

pub write_four-requires : goal.write_four-requires
write_four-requires c =
    high_roomy c.requires c.if-word-eq0.false refl
    c.if-word-eq255.false refl refl c.write_four-middle.ensures

pub shape_of-out : goal.shape_of-out
shape_of-out c =
    c.write_four.auto.out ∙ c.write_four-middle.auto.out
    ∙ length-set {A = ℕ} c.args.out.now c.args.at open_symbol

pub returns : goal.returns
returns c =
    both_stored c.requires
    c.if-word-eq0.false refl
    c.if-word-eq255.false refl refl
    c.write_four-middle.ensures c.write_four.ensures
