-- Lists behind one another's dots.
use Rattle.std.proofs.Common.{◌≡◌, List as Seq, [], ◌∷◌, ◌++◌, reverse, refl, sym, ap, ◌∙◌}
use Rattle.std.proofs.lemmas.List.{reverse-append}
use Rattle.base.specs.declared.place.Place.{Place}
use Rattle.base.specs.Data.{Item, item, integer, character, symbol, string, vector, nil, list, Items, item_and, no_tail, dotted}
use Rattle.front_reader.specs.declared.chain.Link.{Link}
use Rattle.front_reader.specs.Meanings.{in_front, joined}
use Rattle.front_reader.specs.Chains.{chained}
use Rattle.front_reader.proofs.Putting.{items-joined}

in_front-append : (ds es : Seq Item) (fs : Items) → in_front ds (in_front es fs) ≡ in_front (ds ++ es) fs
in_front-append [] es fs = refl
in_front-append (d ∷ ds) es fs = ap (item_and d) (in_front-append ds es fs)

-- data in front of a list that has a datum behind its dot
pub joined-joined : (p : Place) (ds es : Seq Item) (d : Item) → joined ds (item p (joined es d)) ≡ joined (ds ++ es) d
joined-joined p ds es (item q (integer n)) = ap (λ x. list x (dotted (item q (integer n)))) (sym (items-joined ds es))
joined-joined p ds es (item q (character c)) = ap (λ x. list x (dotted (item q (character c)))) (sym (items-joined ds es))
joined-joined p ds es (item q (symbol s)) = ap (λ x. list x (dotted (item q (symbol s)))) (sym (items-joined ds es))
joined-joined p ds es (item q (string b)) = ap (λ x. list x (dotted (item q (string b)))) (sym (items-joined ds es))
joined-joined p ds es (item q (vector fs)) = ap (λ x. list x (dotted (item q (vector fs)))) (sym (items-joined ds es))
joined-joined p ds es (item q nil) = ap (λ x. list x no_tail) (sym (items-joined ds es))
joined-joined p ds es (item q (list fs t)) = ap (λ x. list x t) (in_front-append ds es fs)

-- the outermost list comes first
pub chained-last : (old mid : Seq Link) (l : Link) (d : Item) → old ≡ mid ++ l ∷ []
    → chained (reverse old) d ≡ item l.place (joined l.items (chained (reverse mid) d))
chained-last old mid l d e = ap (λ ls. chained ls d) (ap reverse e ∙ reverse-append mid (l ∷ []))

-- the data of one more of those lists are taken in front
pub chained-turn : (old mid : Seq Link) (l : Link) (ds all : Seq Item) (d : Item) → old ≡ mid ++ l ∷ [] → all ≡ ds ++ l.items
    → joined ds (chained (reverse old) d) ≡ joined all (chained (reverse mid) d)
chained-turn old mid l ds all d e h =
    ap (joined ds) (chained-last old mid l d e) ∙ joined-joined l.place ds l.items (chained (reverse mid) d)
    ∙ ap (λ es. joined es (chained (reverse mid) d)) (sym h)
