-- All parts, one behind another, or one that does not fit.
use Rattle.std.proofs.Common.{◌≡◌, ◌+◌, ◌*◌, ◌^◌, ◌≤◌, Err, length, sym, ap, ◌∙◌, arith}
use Rattle.std.proofs.lemmas.Result.{err_from_is_err_and}
use Rattle.lang_meaning.specs.Cells.{tuples}
use Rattle.lang_dispatch.specs.OfClasses.{with_classes}
use Rattle.back_words.specs.Words.{symbol_among}
use Rattle.back_laying.specs.declared.faults.LayingFault.TheVariants as fault
use Rattle.back_laying.proofs.GenericParts.{generic_made, front_too_large, arguments_too_large, chains_too_large, maps_too_large}
use Rattle.back_laying.proofs.generics.push_generic.Goals as goal

pub returns-clause-words : goal.returns-clause-words
returns-clause-words c =
    let program = with_classes c.args.classes.now in
    let g = c.args.generic.now in
    let found = c.in_ok-groups.groups in
    let maps : c.in_ok-maps.maps ≡ c.args.address + 12 + 8 * length found.specialised + 4 * length (tuples found.firsts) =
    omega (
      arith,
      c.in_ok-behind.ensures.ok,
      c.in_ok-behind-2.ensures.ok,
      c.in_ok-cells.ensures.ok,
      c.in_ok-maps.ensures.ok,
      c.len-specialised.ensures,
      c.tuple_count-count.ensures,
    ) in
    let start : c.in_ok-start.start ≡ c.in_ok-maps.maps + 4 * (length c.args.classes.now * length found.specialised) =
    c.in_ok-start.ensures.end ∙ ap (λ n. c.in_ok-maps.maps + 4 * (n * length found.specialised)) c.len.ensures in
    generic_made program (symbol_among c.args.symbols.now) g c.args.address found c.in_ok-groups.ensures
    c.args.words.now c.push.new.self c.push-2.new.self c.push-3.new.self c.push_specialised.new.words c.append_list.new.self c.push_maps.new.words c.append_list-2.new.self
    c.in_ok-chains.chains.cells c.in_ok-chains.chains.words c.in_ok-arity.arity c.symbol_of.result c.len-specialised.result c.in_ok-maps.maps c.in_ok-start.start
    maps start c.in_ok-arity.ensures.word c.symbol_of.ensures c.len-specialised.ensures c.in_ok-chains.ensures.cells c.in_ok-chains.ensures.words
    c.in_ok-push.ensures.ok c.in_ok-push-2.ensures.ok c.in_ok-push-3.ensures.ok (c.in_ok-start.ensures.words program g (sym c.len.ensures))
    c.in_ok-append_list.ensures.ok (c.in_ok-push_maps.ensures.words program g c.in_ok-groups.ensures) c.in_ok-append_list-2.ensures.ok

pub returns-in_err-behind-2-clause-too_large : goal.returns-in_err-behind-2-clause-too_large
returns-in_err-behind-2-clause-too_large c =
    λ e.
    let found = c.in_ok-groups.groups in
    let far : 2 ^ 32 ≤ c.args.address + 4 * (3 + length found.specialised) =
    omega (arith, c.in_ok-behind.ensures.ok, c.in_err-behind-2.ensures.too_large, c.len-specialised.ensures) in
    front_too_large (with_classes c.args.classes.now) (symbol_among c.args.symbols.now) c.args.generic.now c.args.address found c.in_ok-groups.ensures
    (3 + length found.specialised) (omega arith) far

pub returns-in_err-cells-clause-too_large : goal.returns-in_err-cells-clause-too_large
returns-in_err-cells-clause-too_large c =
    λ e.
    let found = c.in_ok-groups.groups in
    let far : 2 ^ 32 ≤ c.args.address + 4 * (3 + 2 * length found.specialised) =
    omega (arith, c.in_ok-behind.ensures.ok, c.in_ok-behind-2.ensures.ok, c.in_err-cells.ensures.too_large, c.len-specialised.ensures) in
    front_too_large (with_classes c.args.classes.now) (symbol_among c.args.symbols.now) c.args.generic.now c.args.address found c.in_ok-groups.ensures
    (3 + 2 * length found.specialised) (omega arith) far

pub returns-in_err-maps-clause-too_large : goal.returns-in_err-maps-clause-too_large
returns-in_err-maps-clause-too_large c =
    λ e.
    let found = c.in_ok-groups.groups in
    let far : 2 ^ 32 ≤ c.args.address + 4 * (3 + 2 * length found.specialised + length (tuples found.firsts)) =
    omega (
      arith,
      c.in_ok-behind.ensures.ok,
      c.in_ok-behind-2.ensures.ok,
      c.in_ok-cells.ensures.ok,
      c.in_err-maps.ensures.too_large,
      c.len-specialised.ensures,
      c.tuple_count-count.ensures,
    ) in
    front_too_large (with_classes c.args.classes.now) (symbol_among c.args.symbols.now) c.args.generic.now c.args.address found c.in_ok-groups.ensures
    (3 + 2 * length found.specialised + length (tuples found.firsts)) (omega arith) far

pub returns-in_err-start-clause-too_large : goal.returns-in_err-start-clause-too_large
returns-in_err-start-clause-too_large c =
    let program = with_classes c.args.classes.now in
    let symbol = symbol_among c.args.symbols.now in
    let found = c.in_ok-groups.groups in
    let maps : c.in_ok-maps.maps ≡ c.args.address + 12 + 8 * length found.specialised + 4 * length (tuples found.firsts) =
    omega (
      arith,
      c.in_ok-behind.ensures.ok,
      c.in_ok-behind-2.ensures.ok,
      c.in_ok-cells.ensures.ok,
      c.in_ok-maps.ensures.ok,
      c.len-specialised.ensures,
      c.tuple_count-count.ensures,
    ) in
    let p = err_from_is_err_and c.from_residual-in_err-start.result c.from_residual-in_err-start.ensures.1 in
    rw (p.1, p.2) (λ e.
    let same : c.in_err-start.field-0.0 ≡ fault.TooLarge = cc e in
    let large = c.in_err-start.ensures.too_large (ap Err same) program c.args.generic.now in
    arguments_too_large program symbol c.args.generic.now c.args.address found c.in_ok-groups.ensures c.in_ok-maps.maps maps
    (rw c.len.ensures at large))

pub returns-in_err-chains-clause-too_large : goal.returns-in_err-chains-clause-too_large
returns-in_err-chains-clause-too_large c =
    let program = with_classes c.args.classes.now in
    let symbol = symbol_among c.args.symbols.now in
    let found = c.in_ok-groups.groups in
    let maps : c.in_ok-maps.maps ≡ c.args.address + 12 + 8 * length found.specialised + 4 * length (tuples found.firsts) =
    omega (
      arith,
      c.in_ok-behind.ensures.ok,
      c.in_ok-behind-2.ensures.ok,
      c.in_ok-cells.ensures.ok,
      c.in_ok-maps.ensures.ok,
      c.len-specialised.ensures,
      c.tuple_count-count.ensures,
    ) in
    let start : c.in_ok-start.start ≡ c.in_ok-maps.maps + 4 * (length c.args.classes.now * length found.specialised) =
    c.in_ok-start.ensures.end ∙ ap (λ n. c.in_ok-maps.maps + 4 * (n * length found.specialised)) c.len.ensures in
    let p = err_from_is_err_and c.from_residual-in_err-chains.result c.from_residual-in_err-chains.ensures.1 in
    rw (p.1, p.2) (λ e.
    let same : c.in_err-chains.field-0.0 ≡ fault.TooLarge = cc e in
    chains_too_large program symbol c.args.generic.now c.args.address found c.in_ok-groups.ensures c.in_ok-maps.maps c.in_ok-start.start maps start
    (c.in_err-chains.ensures.too_large (ap Err same)))

pub returns-in_err-push_maps-clause-too_large : goal.returns-in_err-push_maps-clause-too_large
returns-in_err-push_maps-clause-too_large c =
    let program = with_classes c.args.classes.now in
    let p = err_from_is_err_and c.from_residual-in_err-push_maps.result c.from_residual-in_err-push_maps.ensures.1 in
    rw (p.1, p.2) (λ e.
    maps_too_large program (symbol_among c.args.symbols.now) c.args.generic.now c.args.address c.in_ok-groups.groups c.in_ok-groups.ensures
    (c.in_err-push_maps.ensures.too_large e program c.args.generic.now c.in_ok-groups.ensures))
