-- Of each public function of `pruned`: its contract asks nothing, and two answers that it allows are equal, and so is what the lent room for symbols holds. The
-- work room, which stands before it, is the exception of rule 16.5: what it holds is told where a check up to its own refuses.
use mathlib.Core.Path.{◌≡◌, refl}
use borrow.Fn.World.{World}
use Rattle.csg.specs.Surfaces.{surfaces_of}
use Rattle.pruned.specs.Answers.{work_of_one, work_of_two}
use Rattle.pruned.specs.contracts as pruned
use Rattle.told_apart.specs.Answers.{TellsApart, TellsApartBut, KeptBy}
use Rattle.told_apart.proofs.Alike.{same, one, three}
use Rattle.told_apart.proofs.Told.{conversion-read}

pub pruned_raw_of_one : (w : World) →
    TellsApartBut w pruned.raw_of_one.ended
    (λ lifetimes a x y. (x.1.1.1.1.1 ≡ y.1.1.1.1.1) × KeptBy (work_of_one a.0 (surfaces_of a.1.0.now a.1.1.0.now) a.1.1.1.0.now
    a.1.1.1.1.0.now) x.1.1.1.1.0 y.1.1.1.1.0)
    pruned.raw_of_one.clauses
pruned_raw_of_one w _ _ =
    ((tt, refl), λ _ _ _ _ _. three w (λ p q. (conversion-read _ _ (same p.0 q.0), (λ i. (same p.1 q.1 i, tt), λ n. same (p.2 n) (q.2 n)))))

pub pruned_raw_of_two : (w : World) →
    TellsApartBut w pruned.raw_of_two.ended
    (λ lifetimes a x y. (x.1.1.1.1.1.1 ≡ y.1.1.1.1.1.1) × KeptBy (work_of_two a.0 (surfaces_of a.1.0.now a.1.1.0.now) a.1.1.1.0.now a.1.1.1.1.0.now a.1.1.1.1.1.0.now) x.1.1.1.1.1.0 y.1.1.1.1.1.0)
    pruned.raw_of_two.clauses
pruned_raw_of_two w _ _ =
    ((tt, refl), λ _ _ _ _ _. three w (λ p q. (conversion-read _ _ (same p.0 q.0), (λ i. (same p.1 q.1 i, tt), λ n. same (p.2 n) (q.2 n)))))

pub pruned_merged_of_one : (w : World) →
    TellsApartBut w pruned.merged_of_one.ended
    (λ lifetimes a x y. (x.1.1.1.1.1 ≡ y.1.1.1.1.1) × KeptBy (work_of_one a.0 (surfaces_of a.1.0.now a.1.1.0.now) a.1.1.1.0.now
    a.1.1.1.1.0.now) x.1.1.1.1.0 y.1.1.1.1.0)
    pruned.merged_of_one.clauses
pruned_merged_of_one w _ _ =
    ((tt, refl), λ _ _ _ _ _. three w (λ p q. (conversion-read _ _ (same p.0 q.0), (λ i. (same p.1 q.1 i, tt), λ n. same (p.2 n) (q.2 n)))))

pub pruned_merged_of_two : (w : World) →
    TellsApartBut w pruned.merged_of_two.ended
    (λ lifetimes a x y. (x.1.1.1.1.1.1 ≡ y.1.1.1.1.1.1) × KeptBy (work_of_two a.0 (surfaces_of a.1.0.now a.1.1.0.now) a.1.1.1.0.now a.1.1.1.1.0.now a.1.1.1.1.1.0.now) x.1.1.1.1.1.0 y.1.1.1.1.1.0)
    pruned.merged_of_two.clauses
pruned_merged_of_two w _ _ =
    ((tt, refl), λ _ _ _ _ _. three w (λ p q. (conversion-read _ _ (same p.0 q.0), (λ i. (same p.1 q.1 i, tt), λ n. same (p.2 n) (q.2 n)))))

pub pruned_turned_code : (w : World) → TellsApart w pruned.turned_code.ended pruned.turned_code.clauses
pruned_turned_code w _ _ = ((tt, refl), λ _ _ _ _ _. one w (λ p q. (same p q, refl)))

pub pruned_side_code : (w : World) → TellsApart w pruned.side_code.ended pruned.side_code.clauses
pruned_side_code w _ _ = ((tt, refl), λ _ _ _ _ _. one w (λ p q. (same p q, refl)))

pub pruned_joined_code : (w : World) → TellsApart w pruned.joined_code.ended pruned.joined_code.clauses
pruned_joined_code w _ _ = ((tt, refl), λ _ _ _ _ _. one w (λ p q. (same p q, refl)))

pub pruned_whole_mark : (w : World) → TellsApart w pruned.whole_mark.ended pruned.whole_mark.clauses
pruned_whole_mark w _ _ = ((tt, refl), λ _ _ _ _ _. one w (λ p q. (same p q, refl)))

pub unconverted_number : (w : World) → TellsApart w pruned.answer.Unconverted.number.ended pruned.answer.Unconverted.number.clauses
unconverted_number w _ _ = ((tt, refl), λ _ _ _ _ _. one w (λ p q. (same p q, refl)))

pub unconverted_needed : (w : World) → TellsApart w pruned.answer.Unconverted.needed.ended pruned.answer.Unconverted.needed.clauses
unconverted_needed w _ _ = ((tt, refl), λ _ _ _ _ _. one w (λ p q. (same p q, refl)))

pub unconverted_lacks_work : (w : World) → TellsApart w pruned.answer.Unconverted.lacks_work.ended pruned.answer.Unconverted.lacks_work.clauses
unconverted_lacks_work w _ _ = ((tt, refl), λ _ _ _ _ _. one w (λ p q. (same p q, refl)))
