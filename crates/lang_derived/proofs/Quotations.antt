-- The form that makes the datum of a template, walked once: what holds of its parts holds of it.
use Rattle.std.specs.Prelude.{ℕ, zero, suc, ◌+◌, Bool, true, false, List, [], ◌∷◌, if◌then◌else◌, codes}
use Rattle.base.specs.declared.place.Place.{Place}
use Rattle.base.specs.Data.{Item, item, Content, integer, character, symbol, string, vector, nil, list, Items, no_item, item_and, Tail, no_tail, dotted}
use Rattle.base.specs.DataParts.{AllItems, OfDotted}
use Rattle.lang_derived.specs.Pieces.{Piece, taken, Pieces, no_piece, piece_and, listed, form}
use Rattle.lang_derived.specs.Asked.{is_word}
use Rattle.lang_derived.specs.Quotation.{template, template_of, tail_part, template_list, unquoted, spliced, part, parts, kept_prefix, one_piece, appended}
use Rattle.lang_derived.proofs.Parts.{GoesDown}

-- it holds of each part
abbrev pub AllIn : (Piece → Type 0) → Pieces → Type 0
AllIn Q no_piece = Unit {0}
AllIn Q (piece_and x xs) = Q x × AllIn Q xs

-- what holds of parts holds of what a template writes around them
pub record TemplateKeeps (P : Item → Type 0) (Q : Piece → Type 0) : Type 0 where
  pub of_taken : (d : Item) → P d → Q (taken d)
  pub of_quoted : (d : Item) → P d → Q (form (codes "quote") (taken d ∷ []))
  pub of_empty : Q (form (codes "quote") (listed [] ∷ []))
  pub of_vector : (x : Piece) → Q x → Q (form (codes "%list-vector") (x ∷ []))
  pub of_listed : (x : Piece) → Q x → Q (form (codes "%list") (x ∷ []))
  pub of_prefix : (name : List ℕ) (x : Piece) → Q x → Q (kept_prefix name x)
  pub of_appended : (xs : Pieces) → AllIn Q xs → Q (appended xs)

either : (Q : Piece → Type 0) (b : Bool) (x y : Piece) → Q x → Q y → Q (if b then x else y)
either Q true x y g h = g
either Q false x y g h = h

either_in : (Q : Piece → Type 0) (b : Bool) (xs ys : Pieces) → AllIn Q xs → AllIn Q ys → AllIn Q (if b then xs else ys)
either_in Q true xs ys g h = g
either_in Q false xs ys g h = h

module _ (P : Item → Type 0) (Q : Piece → Type 0) (down : GoesDown P) (keeps : TemplateKeeps P Q) (names : List (List ℕ)) where
  mutual
    unfolding template

    pub template_kept : (n : ℕ) (d : Item) → P d → Q (template names n d)
    template_kept n (item p c) h = template_of_kept n p c h

    template_of_kept : (n : ℕ) (p : Place) (c : Content) → P (item p c) → Q (template_of names n p c)
    template_of_kept n p (integer z) h = keeps.of_quoted (item p (integer z)) h
    template_of_kept n p (character z) h = keeps.of_quoted (item p (character z)) h
    template_of_kept n p (symbol s) h = keeps.of_quoted (item p (symbol s)) h
    template_of_kept n p (string bytes) h = keeps.of_quoted (item p (string bytes)) h
    template_of_kept n p nil h = keeps.of_quoted (item p nil) h
    template_of_kept n p (vector ds) h =
        keeps.of_vector (template_list names n ds no_piece) (template_list_kept n ds no_piece (down.of_vector p ds h) tt)
    template_of_kept n p (list ds t) h =
        template_list_kept n ds (tail_part names n t) (down.of_items p ds t h) (tail_part_kept n t (down.of_tail p ds t h))

    tail_part_kept : (n : ℕ) (t : Tail) → OfDotted P t → AllIn Q (tail_part names n t)
    tail_part_kept n no_tail h = tt
    tail_part_kept n (dotted d) h = (template_kept n d h, tt)

    template_list_kept : (n : ℕ) (ds : Items) (behind : Pieces) → AllItems P ds → AllIn Q behind → Q (template_list names n ds behind)
    template_list_kept n no_item behind h b = keeps.of_empty
    template_list_kept n (item_and x no_item) behind h b = keeps.of_appended (piece_and (part names n x) behind) (part_kept n x h.0, b)
    template_list_kept n (item_and x (item_and e no_item)) no_piece h b =
        either Q (is_word names (codes "unquote") x) (unquoted names n e) _ (unquoted_kept n e h.1.0)
        (either Q (is_word names (codes "quasiquote") x) (kept_prefix (codes "quasiquote") (template names (n + 1) e)) _
        (keeps.of_prefix (codes "quasiquote") (template names (n + 1) e) (template_kept (n + 1) e h.1.0))
        (keeps.of_appended (piece_and (part names n x) (one_piece (part names n e))) (part_kept n x h.0, (part_kept n e h.1.0, tt))))
    template_list_kept n (item_and x (item_and e no_item)) (piece_and y ys) h b =
        keeps.of_appended (piece_and (part names n x) (parts names n (item_and e no_item) (piece_and y ys)))
        (part_kept n x h.0, parts_kept n (item_and e no_item) (piece_and y ys) h.1 b)
    template_list_kept n (item_and x (item_and e (item_and d ds))) behind h b =
        keeps.of_appended (piece_and (part names n x) (parts names n (item_and e (item_and d ds)) behind))
        (part_kept n x h.0, parts_kept n (item_and e (item_and d ds)) behind h.1 b)

    unquoted_kept : (n : ℕ) (e : Item) → P e → Q (unquoted names n e)
    unquoted_kept zero (item p c) h = keeps.of_taken (item p c) h
    unquoted_kept (suc n) (item p c) h = keeps.of_prefix (codes "unquote") (template_of names n p c) (template_of_kept n p c h)

    spliced_kept : (n : ℕ) (e : Item) → P e → Q (spliced names n e)
    spliced_kept zero (item p c) h = keeps.of_taken (item p c) h
    spliced_kept (suc n) (item p c) h =
        keeps.of_listed (kept_prefix (codes "unquote-splicing") (template_of names n p c))
        (keeps.of_prefix (codes "unquote-splicing") (template_of names n p c) (template_of_kept n p c h))

    part_kept : (n : ℕ) (d : Item) → P d → Q (part names n d)
    part_kept n (item p (integer z)) h = keeps.of_listed _ (template_of_kept n p (integer z) h)
    part_kept n (item p (character z)) h = keeps.of_listed _ (template_of_kept n p (character z) h)
    part_kept n (item p (symbol s)) h = keeps.of_listed _ (template_of_kept n p (symbol s) h)
    part_kept n (item p (string bytes)) h = keeps.of_listed _ (template_of_kept n p (string bytes) h)
    part_kept n (item p nil) h = keeps.of_listed _ (template_of_kept n p nil h)
    part_kept n (item p (vector ds)) h = keeps.of_listed _ (template_of_kept n p (vector ds) h)
    part_kept n (item p (list no_item t)) h = keeps.of_listed _ (template_of_kept n p (list no_item t) h)
    part_kept n (item p (list (item_and x no_item) t)) h = keeps.of_listed _ (template_of_kept n p (list (item_and x no_item) t) h)
    part_kept n (item p (list (item_and x (item_and e no_item)) no_tail)) h =
        either Q (is_word names (codes "unquote-splicing") x) (spliced names n e) _
        (spliced_kept n e (down.of_items p (item_and x (item_and e no_item)) no_tail h).1.0)
        (keeps.of_listed _ (template_of_kept n p (list (item_and x (item_and e no_item)) no_tail) h))
    part_kept n (item p (list (item_and x (item_and e no_item)) (dotted d))) h =
        keeps.of_listed _ (template_of_kept n p (list (item_and x (item_and e no_item)) (dotted d)) h)
    part_kept n (item p (list (item_and x (item_and e (item_and d ds))) t)) h =
        keeps.of_listed _ (template_of_kept n p (list (item_and x (item_and e (item_and d ds))) t) h)

    parts_kept : (n : ℕ) (ds : Items) (behind : Pieces) → AllItems P ds → AllIn Q behind → AllIn Q (parts names n ds behind)
    parts_kept n no_item behind h b = b
    parts_kept n (item_and x no_item) behind h b = (part_kept n x h.0, b)
    parts_kept n (item_and x (item_and e no_item)) no_piece h b =
        either_in Q (is_word names (codes "unquote") x) (one_piece (unquoted names n e)) (piece_and (part names n x) (one_piece (part names n e)))
        (unquoted_kept n e h.1.0, tt) (part_kept n x h.0, (part_kept n e h.1.0, tt))
    parts_kept n (item_and x (item_and e no_item)) (piece_and y ys) h b =
        (part_kept n x h.0, parts_kept n (item_and e no_item) (piece_and y ys) h.1 b)
    parts_kept n (item_and x (item_and e (item_and d ds))) behind h b =
        (part_kept n x h.0, parts_kept n (item_and e (item_and d ds)) behind h.1 b)
