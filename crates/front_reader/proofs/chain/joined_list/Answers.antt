use Rattle.std.proofs.Common.{List, ◌≡◌, ◌∙◌, ◌++◌, ap}
use Rattle.base.specs.declared.place.Place.{Place}
use Rattle.base.specs.Data.{Item, item, list, items_of, Tail}
use Rattle.base.specs.model.DataView.{tail_of}
use Rattle.front_reader.specs.Meanings.{joined}
use Rattle.front_reader.proofs.Putting.{items-joined}
use Rattle.front_reader.proofs.chain.joined_list.Goals as goal

-- a list behind the dot
list-joined : (p at : Place) (d e : Item) (ds more all : List Item) (t : Tail) → e ≡ item p (list (items_of all) t)
    → all ≡ ds ++ more → item at (list (items_of more) t) ≡ d → e ≡ item p (joined ds d)
list-joined p at d e ds more all t h k l =
    h ∙ ap (λ es. item p (list (items_of es) t)) k ∙ ap (λ es. item p (list es t)) (items-joined ds more)
    ∙ ap (λ x. item p (joined ds x)) l

pub returns-in-Ok : goal.returns-in-Ok
returns-in-Ok c =
    list-joined c.args.place c.datum.inside.place c.args.datum c.new-in-List.result c.args.items c.in-List.more
    c.append_list.new.self (tail_of c.in-List.tail) c.new-in-List.ensures c.in-Ok.ensures.ok
    (cc (c.datum.view_is, c.in-List.is))
