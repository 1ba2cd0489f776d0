-- Lists behind one another's dots.
use Rattle.std.specs.Prelude.{List as Seq, [], ◌∷◌}
use Rattle.base.specs.Data.{Item, item}
use Rattle.front_reader.specs.declared.chain.Link.{Link}
use Rattle.front_reader.specs.Meanings.{joined}

-- a datum behind the dots of these lists, the outermost first
abbrev pub chained : Seq Link → Item → Item
chained [] d = d
chained (l ∷ ls) d = item l.place (joined l.items (chained ls d))
