-- Kinds of forms by what stands right inside them.
use Rattle.lang_meaning.specs.Form.{Form, set_local, set_global, def_global, sequence, let_form, lambda, call, call_value, apply, prim, while_form, block, return_from, tagbody, catch_form, throw, unwind, dynamic_let, set_dynamic, def_dynamic, with_handler, signal_form, continue_form, sited}

-- one form
abbrev pub IsOfOne : Form → Type 0
IsOfOne (set_local v f) = Unit {0}
IsOfOne (set_global n f) = Unit {0}
IsOfOne (def_global n f) = Unit {0}
IsOfOne (block x f) = Unit {0}
IsOfOne (return_from x f) = Unit {0}
IsOfOne (set_dynamic n f) = Unit {0}
IsOfOne (def_dynamic n f) = Unit {0}
IsOfOne (sited s f) = Unit {0}
IsOfOne _ = ⊥

-- two forms
abbrev pub IsOfTwo : Form → Type 0
IsOfTwo (apply f g) = Unit {0}
IsOfTwo (while_form f g) = Unit {0}
IsOfTwo (catch_form f g) = Unit {0}
IsOfTwo (throw f g) = Unit {0}
IsOfTwo (unwind f g) = Unit {0}
IsOfTwo (with_handler f g) = Unit {0}
IsOfTwo (signal_form f g) = Unit {0}
IsOfTwo (continue_form f g) = Unit {0}
IsOfTwo _ = ⊥

-- a list of forms
abbrev pub IsOfList : Form → Type 0
IsOfList (sequence fs) = Unit {0}
IsOfList (call n fs) = Unit {0}
IsOfList (call_value fs) = Unit {0}
IsOfList (prim p fs) = Unit {0}
IsOfList (tagbody x fs) = Unit {0}
IsOfList _ = ⊥

-- a body, round which it binds variables
abbrev pub IsOfBody : Form → Type 0
IsOfBody (let_form bs f) = Unit {0}
IsOfBody (lambda vs r f ps) = Unit {0}
IsOfBody (dynamic_let ds f) = Unit {0}
IsOfBody _ = ⊥
