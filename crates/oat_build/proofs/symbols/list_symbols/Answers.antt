use Rattle.std.proofs.Common.{Bool, ◌≡◌, ◌+◌, ◌<◌, ◌≤◌, ℕ, List, length, get_or, false, ap, subst, sym, ◌∙◌, arith}
use Rattle.std.specs.Prelude.{is_some}
use Rattle.oat_match.specs.{Func, functions_of, blocks_of}
use Rattle.oat_build.specs.Addresses.{address_in}
use Rattle.oat_build.proofs.{Mains.found_main, Mains.labels_fit, Mains.main_there, SymbolLists.count_least, SymbolLists.functions_join, SymbolLists.all_blocks_join, SymbolLists.listed_whole}
use Rattle.oat_build.proofs.symbols.list_symbols.Goals as goal

pub unwrap-main-requires : goal.unwrap-main-requires
unwrap-main-requires c = ap is_some (main_there c.args.program.now c.requires c.as_slice-funcs.result.now c.main_index.result c.as_slice-funcs.ensures c.main_index.ensures)

pub overflow_cast-first : goal.overflow_cast-first
overflow_cast-first c =
    let f = found_main c.args.program.now c.requires c.as_slice-funcs.result.now c.main_index.result c.unwrap-main.result c.as_slice-funcs.ensures c.main_index.ensures c.unwrap-main.ensures in
    let few = f.few in
    omega arith

pub blocks_in-requires : goal.blocks_in-requires
blocks_in-requires c =
    let f = found_main c.args.program.now c.requires c.as_slice-funcs.result.now c.main_index.result c.unwrap-main.result c.as_slice-funcs.ensures c.main_index.ensures c.unwrap-main.ensures in
    let least = count_least c.as_slice-funcs.result.now c.unwrap-main.result in
    let few = f.few in
    omega arith

pub overflow_add-first_of_main : goal.overflow_add-first_of_main
overflow_add-first_of_main c =
    let f = found_main c.args.program.now c.requires c.as_slice-funcs.result.now c.main_index.result c.unwrap-main.result c.as_slice-funcs.ensures c.main_index.ensures c.unwrap-main.ensures in
    let least = count_least c.as_slice-funcs.result.now c.unwrap-main.result in
    let few = f.few in
    let counted = c.blocks_in.ensures in
    omega arith

pub bounds-funcs-main : goal.bounds-funcs-main
bounds-funcs-main c =
    let f = found_main c.args.program.now c.requires c.as_slice-funcs.result.now c.main_index.result c.unwrap-main.result c.as_slice-funcs.ensures c.main_index.ensures c.unwrap-main.ensures in
    f.within

pub overflow_cast-behind_main : goal.overflow_cast-behind_main
overflow_cast-behind_main c =
    let f = found_main c.args.program.now c.requires c.as_slice-funcs.result.now c.main_index.result c.unwrap-main.result c.as_slice-funcs.ensures c.main_index.ensures c.unwrap-main.ensures in
    let l = labels_fit c.args.program.now c.as_slice-funcs.result.now c.unwrap-main.result c.blocks_in.result c.len.result c.index-funcs-main.result f c.blocks_in.ensures c.index-funcs-main.is (c.len.ensures ∙ ap (λ (g : Func). length g.blocks) (sym c.index-funcs-main.is)) in
    let fits = l.fits in
    omega arith

pub overflow_add-behind_main : goal.overflow_add-behind_main
overflow_add-behind_main c =
    let f = found_main c.args.program.now c.requires c.as_slice-funcs.result.now c.main_index.result c.unwrap-main.result c.as_slice-funcs.ensures c.main_index.ensures c.unwrap-main.ensures in
    let l = labels_fit c.args.program.now c.as_slice-funcs.result.now c.unwrap-main.result c.blocks_in.result c.len.result c.index-funcs-main.result f c.blocks_in.ensures c.index-funcs-main.is (c.len.ensures ∙ ap (λ (g : Func). length g.blocks) (sym c.index-funcs-main.is)) in
    let fits = l.fits in
    omega arith

pub list-requires-clause-lister : goal.list-requires-clause-lister
list-requires-clause-lister c =
    let f = found_main c.args.program.now c.requires c.as_slice-funcs.result.now c.main_index.result c.unwrap-main.result c.as_slice-funcs.ensures c.main_index.ensures c.unwrap-main.ensures in
    let flags = c.as_slice.ensures.value in
    let few = f.few_of in
    record {
      few = omega arith;
      flags = ap length flags ∙ c.in_ok-references.ensures.len;
      referenced = λ g less. ap (λ (xs : List Bool). get_or xs g false) flags ∙ c.in_ok-references.ensures.flags g less;
    }

pub list-requires-clause-labels : goal.list-requires-clause-labels
list-requires-clause-labels c =
    let f = found_main c.args.program.now c.requires c.as_slice-funcs.result.now c.main_index.result c.unwrap-main.result c.as_slice-funcs.ensures c.main_index.ensures c.unwrap-main.ensures in
    let l = labels_fit c.args.program.now c.as_slice-funcs.result.now c.unwrap-main.result c.blocks_in.result c.len.result c.index-funcs-main.result f c.blocks_in.ensures c.index-funcs-main.is (c.len.ensures ∙ ap (λ (g : Func). length g.blocks) (sym c.index-funcs-main.is)) in
    l.main

pub list-requires-2-clause-lister : goal.list-requires-2-clause-lister
list-requires-2-clause-lister c =
    let f = found_main c.args.program.now c.requires c.as_slice-funcs.result.now c.main_index.result c.unwrap-main.result c.as_slice-funcs.ensures c.main_index.ensures c.unwrap-main.ensures in
    let flags = c.as_slice.ensures.value in
    let few = f.few_of in
    record {
      few = omega arith;
      flags = ap length flags ∙ c.in_ok-references.ensures.len;
      referenced = λ g less. ap (λ (xs : List Bool). get_or xs g false) flags ∙ c.in_ok-references.ensures.flags g less;
    }

pub list-requires-2-clause-labels : goal.list-requires-2-clause-labels
list-requires-2-clause-labels c =
    let f = found_main c.args.program.now c.requires c.as_slice-funcs.result.now c.main_index.result c.unwrap-main.result c.as_slice-funcs.ensures c.main_index.ensures c.unwrap-main.ensures in
    let l = labels_fit c.args.program.now c.as_slice-funcs.result.now c.unwrap-main.result c.blocks_in.result c.len.result c.index-funcs-main.result f c.blocks_in.ensures c.index-funcs-main.is (c.len.ensures ∙ ap (λ (g : Func). length g.blocks) (sym c.index-funcs-main.is)) in
    l.front

pub list-requires-3-clause-lister : goal.list-requires-3-clause-lister
list-requires-3-clause-lister c =
    let f = found_main c.args.program.now c.requires c.as_slice-funcs.result.now c.main_index.result c.unwrap-main.result c.as_slice-funcs.ensures c.main_index.ensures c.unwrap-main.ensures in
    let flags = c.as_slice.ensures.value in
    let few = f.few_of in
    record {
      few = omega arith;
      flags = ap length flags ∙ c.in_ok-references.ensures.len;
      referenced = λ g less. ap (λ (xs : List Bool). get_or xs g false) flags ∙ c.in_ok-references.ensures.flags g less;
    }

pub list-requires-3-clause-labels : goal.list-requires-3-clause-labels
list-requires-3-clause-labels c =
    let f = found_main c.args.program.now c.requires c.as_slice-funcs.result.now c.main_index.result c.unwrap-main.result c.as_slice-funcs.ensures c.main_index.ensures c.unwrap-main.ensures in
    let l = labels_fit c.args.program.now c.as_slice-funcs.result.now c.unwrap-main.result c.blocks_in.result c.len.result c.index-funcs-main.result f c.blocks_in.ensures c.index-funcs-main.is (c.len.ensures ∙ ap (λ (g : Func). length g.blocks) (sym c.index-funcs-main.is)) in
    l.back

pub returns-clause-functions : goal.returns-clause-functions
returns-clause-functions c =
    let f = found_main c.args.program.now c.requires c.as_slice-funcs.result.now c.main_index.result c.unwrap-main.result c.as_slice-funcs.ensures c.main_index.ensures c.unwrap-main.ensures in
    let l = labels_fit c.args.program.now c.as_slice-funcs.result.now c.unwrap-main.result c.blocks_in.result c.len.result c.index-funcs-main.result f c.blocks_in.ensures c.index-funcs-main.is (c.len.ensures ∙ ap (λ (g : Func). length g.blocks) (sym c.index-funcs-main.is)) in
    let address = address_in c.args.addresses.now in
    listed_whole (functions_of address) (functions_join address) c.args.program.now c.unwrap-main.result (length c.as_slice-funcs.result.now) (length c.as_slice-funcs.result.now + c.blocks_in.result) (length c.as_slice-funcs.result.now + c.blocks_in.result + c.len.result)
    c.new.result.items c.list.new.symbols.functions.items c.list-2.new.symbols.functions.items c.list-3.new.symbols.functions.items
    f.is (subst (λ (n : ℕ). c.unwrap-main.result < n) f.many f.within) f.many (ap (λ (n : ℕ). length c.as_slice-funcs.result.now + n) l.to_main) l.behind_main c.new.ensures.items
    c.in_ok-list.ensures.functions c.in_ok-list-2.ensures.functions c.in_ok-list-3.ensures.functions

pub returns-clause-blocks : goal.returns-clause-blocks
returns-clause-blocks c =
    let f = found_main c.args.program.now c.requires c.as_slice-funcs.result.now c.main_index.result c.unwrap-main.result c.as_slice-funcs.ensures c.main_index.ensures c.unwrap-main.ensures in
    let l = labels_fit c.args.program.now c.as_slice-funcs.result.now c.unwrap-main.result c.blocks_in.result c.len.result c.index-funcs-main.result f c.blocks_in.ensures c.index-funcs-main.is (c.len.ensures ∙ ap (λ (g : Func). length g.blocks) (sym c.index-funcs-main.is)) in
    let address = address_in c.args.addresses.now in
    listed_whole (blocks_of address) (all_blocks_join address) c.args.program.now c.unwrap-main.result (length c.as_slice-funcs.result.now) (length c.as_slice-funcs.result.now + c.blocks_in.result) (length c.as_slice-funcs.result.now + c.blocks_in.result + c.len.result)
    c.new-2.result.items c.list.new.symbols.blocks.items c.list-2.new.symbols.blocks.items c.list-3.new.symbols.blocks.items
    f.is (subst (λ (n : ℕ). c.unwrap-main.result < n) f.many f.within) f.many (ap (λ (n : ℕ). length c.as_slice-funcs.result.now + n) l.to_main) l.behind_main c.new-2.ensures.items
    c.in_ok-list.ensures.blocks c.in_ok-list-2.ensures.blocks c.in_ok-list-3.ensures.blocks
