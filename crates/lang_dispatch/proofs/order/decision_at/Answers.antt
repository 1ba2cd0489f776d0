-- What is left from the argument on begins with the classes there.
use Rattle.std.proofs.Common.{drop, sym, ap, ◌∙◌}
use Rattle.std.proofs.lemmas.List.{drop_all}
use Rattle.lang_meaning.specs.Classes.{more_specific}
use Rattle.lang_dispatch.specs.OfClasses.{with_classes}
use Rattle.lang_dispatch.proofs.Picking.{short_method, short_other, differ_here, same_here, number_here, number_differs}
use Rattle.lang_dispatch.proofs.order.decision_at.Goals as goal

pub returns-in_default-get : goal.returns-in_default-get
returns-in_default-get c =
    ap (λ ms. more_specific (with_classes c.args.classes.now) (drop c.args.at c.args.tuple.now) ms (drop c.args.at c.args.other.now))
    (drop_all c.args.at c.args.method.now c.in_default-get.ensures)
    ∙ short_method (with_classes c.args.classes.now) (drop c.args.at c.args.tuple.now) (drop c.args.at c.args.other.now)

pub returns-in_default-get-2 : goal.returns-in_default-get-2
returns-in_default-get-2 c =
    ap (λ ns. more_specific (with_classes c.args.classes.now) (drop c.args.at c.args.tuple.now) (drop c.args.at c.args.method.now) ns)
    (drop_all c.args.at c.args.other.now c.in_default-get-2.ensures)
    ∙ short_other (with_classes c.args.classes.now) (drop c.args.at c.args.tuple.now) (drop c.args.at c.args.method.now)

pub returns-then-first-second : goal.returns-then-first-second
returns-then-first-second c =
    sym (same_here (with_classes c.args.classes.now) c.args.tuple.now c.args.method.now c.args.other.now c.args.at
    c.in-Some.class.now c.in-Some-get.first.now c.in-Some-get-2.second.now c.in-Some.ensures c.in-Some-get.ensures c.in-Some-get-2.ensures
    (number_here c.in-Some-get.first.now c.in-Some-get-2.second.now c.if-first-second.true))

pub returns : goal.returns
returns c =
    rw c.stands_earlier.ensures
    (differ_here (with_classes c.args.classes.now) c.args.tuple.now c.args.method.now c.args.other.now c.args.at
    c.in-Some.class.now c.in-Some-get.first.now c.in-Some-get-2.second.now c.in-Some.ensures c.in-Some-get.ensures c.in-Some-get-2.ensures
    (number_differs c.in-Some-get.first.now c.in-Some-get-2.second.now c.if-first-second.false))
