-- The datum that contracts see in a datum: one level of the view.
use Rattle.std.specs.Prelude.{◌≡◌, List as Seq, [], ◌∷◌, Option, Some, None, Box, refl}
use Rattle.std.proofs.Common.{ap}
use Rattle.std.specs.declared.alloc.Global.{Global}
use Rattle.base.specs.declared.place.Place.{Place}
use Rattle.base.specs.Data.{Item, item, Content, integer, character, symbol, string, vector, nil, list}
use Rattle.base.specs.Data.{Items, no_item, item_and, items_of, items_list, Tail, no_tail, dotted}
use Rattle.base.specs.declared.datum.Kind.{Kind}
use Rattle.base.specs.declared.datum.Kind.TheVariants.{Int, Char, Sym, Str, Vector, Nil, List}

abbrev pub tail_of : Option (Box Item Global) → Tail
tail_of None = no_tail
tail_of (Some b) = dotted b.value

abbrev pub view_content : Kind → Content
view_content (Int n) = integer n
view_content (Char c) = character c
view_content (Sym s) = symbol s
view_content (Str bytes) = string bytes
view_content (Vector ds) = vector (items_of ds)
view_content Nil = nil
view_content (List ds t) = list (items_of ds) (tail_of t)

abbrev pub view_item : Place → Kind → Item
view_item p k = item p (view_content k)

pub items_list-items_of : (ds : Seq Item) → items_list (items_of ds) ≡ ds
items_list-items_of [] = refl
items_list-items_of (d ∷ ds) = ap (λ es. d ∷ es) (items_list-items_of ds)

pub items_of-items_list : (ds : Items) → items_of (items_list ds) ≡ ds
items_of-items_list no_item = refl
items_of-items_list (item_and d ds) = ap (item_and d) (items_of-items_list ds)
