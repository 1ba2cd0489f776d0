-- The rows of exits: blocks and tags, which are lexical by name (ISO/IEC 13816:2007, 14.8.1).
use Rattle.std.specs.Prelude.{ℕ, ◌+◌, List, [], ◌∷◌, Option, Some, None, if◌then◌else◌}
use Rattle.base.specs.declared.place.Place.{Place}
use Rattle.base.specs.declared.datum.Symbol.{Symbol}
use Rattle.base.specs.declared.reason.Reason.TheVariants.{UnknownBlock, UnknownTag}
use Rattle.base.specs.Data.{Item}
use Rattle.front_profile.specs.declared.bound.Bound.TheVariants.{Block, Tags}
use Rattle.front_profile.specs.declared.bound.Target.{Target}
use Rattle.front_profile.specs.declared.tables.Tables.{Tables}
use Rattle.front_profile.specs.Names.{block_of, tag_of}
use Rattle.front_profile.specs.declared.elaboration.Leaf.TheVariants.{Go}
use Rattle.front_profile.specs.declared.elaboration.Elaboration.TheVariants.{OfBlock, OfSegments}
use Rattle.front_profile.specs.declared.elaboration.One.TheVariants.{ReturnTo}
use Rattle.front_profile.specs.Nodes.{StaticContext, Node, with_bound}
use Rattle.front_profile.specs.Shapes.{symbol_of, name_of, all_differ, tags_in, forms_in, lengths_in}
use Rattle.front_profile.specs.RowWords.{deeper, within_depth, made_of, made_at_once, each_inner, bad_shape, no_such}
use Rattle.front_profile.specs.ValueRows.{one_part}

-- a form that makes an exit takes its number
abbrev pub with_exit : Tables → Tables
with_exit s = record s { exits = s.exits + 1 }

-- (block name f*)

abbrev pub block_as : StaticContext → Tables → Place → Option Symbol → List Item → Node
block_as a s p None fs = bad_shape p
block_as a s p (Some x) fs =
    within_depth 2 a p (made_of a (with_bound (Block x s.exits) (deeper 2 a)) p (with_exit s) (each_inner fs) (OfBlock s.exits))

abbrev pub block_row : StaticContext → Tables → Place → List Item → Node
block_row a s p [] = bad_shape p
block_row a s p (d ∷ fs) = block_as a s p (symbol_of d) fs

-- (return-from name x)

abbrev pub return_to_exit : StaticContext → Tables → Place → Symbol → Option ℕ → Item → Node
return_to_exit a s p x None d = no_such p UnknownBlock (name_of x)
return_to_exit a s p x (Some e) d = one_part a p s (ReturnTo e) d

abbrev pub return_as : StaticContext → Tables → Place → Option Symbol → Item → Node
return_as a s p None d = bad_shape p
return_as a s p (Some x) d = return_to_exit a s p x (block_of a.bound x) d

abbrev pub return_from_row : StaticContext → Tables → Place → List Item → Node
return_from_row a s p (x ∷ d ∷ []) = return_as a s p (symbol_of x) d
return_from_row a s p [] = bad_shape p
return_from_row a s p (x ∷ []) = bad_shape p
return_from_row a s p (x ∷ d ∷ e ∷ ds) = bad_shape p

-- (tagbody part*): a tag stands once
abbrev pub tagbody_row : StaticContext → Tables → Place → List Item → Node
tagbody_row a s p ds =
    if all_differ (tags_in ds) then
    within_depth 2 a p (made_of a (with_bound (Tags (tags_in ds) s.exits) (deeper 2 a)) p (with_exit s) (each_inner (forms_in ds)) (OfSegments s.exits (lengths_in ds)))
    else bad_shape p

-- (go tag)

abbrev pub go_to : StaticContext → Tables → Place → Symbol → Option Target → Node
go_to a s p x None = no_such p UnknownTag (name_of x)
go_to a s p x (Some target) = made_at_once a p s (Go target.exit target.segment)

abbrev pub go_as : StaticContext → Tables → Place → Option Symbol → Node
go_as a s p None = bad_shape p
go_as a s p (Some x) = go_to a s p x (tag_of a.bound x)

abbrev pub go_row : StaticContext → Tables → Place → List Item → Node
go_row a s p (d ∷ []) = go_as a s p (symbol_of d)
go_row a s p [] = bad_shape p
go_row a s p (d ∷ e ∷ ds) = bad_shape p
