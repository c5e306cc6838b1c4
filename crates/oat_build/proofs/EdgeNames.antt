-- In the map of a built image each edge of the program has the name that it has in the source.
use Rattle.std.proofs.Common.{◌≡◌, ◌+◌, ◌-◌, ◌*◌, ◌%◌, ◌^◌, ◌<◌, ◌≤◌, ℕ, zero, suc, pos, Bool, true, false, cond, List, [], ◌∷◌, ◌++◌, length, map, take, drop, get_or, Option, Some, None, refl, sym}
use Rattle.std.proofs.Common.{ap, subst, ◌∙◌, arith, append_assoc, length-append}
use Rattle.std.specs.{Prelude.slice_get, Prelude.All, Prelude.Contains, Prelude.nat_eq, Prelude.nat_lt, Prelude.unwrap_or, Option.option_map, Option.option_and_then, List.count_by}
use Rattle.std.proofs.lemmas.Option.{slice_get-get_or}
use Rattle.oat_asm.proofs.StandingItems.{stand_in_two, words_of_two}
use Rattle.oat_parts.proofs.{Lists.all_in, Lists.map_get, Lists.map_length, Making.words_add}
use Rattle.oat_check.proofs.Checking.{each_at}
use Rattle.oat_frames.proofs.FrameLaws.{lines-stand, found-contains}
use Rattle.oat_match.specs.{code_base, AddImm, Blr, Brk, Cbnz, Ldr, Svc, Map, Row, EdgeName, PlaceName, Site, branch, call, icall, jump, return, place_name, site, call_site, name_of, address_of}
use Rattle.oat_match.specs.{after, is_call, is_over, IsRow, IsWellFormedImage, Bl, Item, Mark, words_needed, expansion, IsOver, ItemsStand, Program, Func, BlockIr, Instr, Const, Copy, Binary, Load}
use Rattle.oat_match.specs.{Store, LoadX, StoreX, RefTo, Call, ICall, Input, Output, Term, Jump, Branch, Ret, SourceSite, IsInstr, IsTerm, IsBlockIr, IsFunc, CodeLine, instruction, terminator}
use Rattle.oat_match.specs.{line_in, is_calling, instrs_of, site_of_line, source_site, source_site_name, source_block_name, source_func_name, line_edge_name, IsChecked, LineEdge, LinePlace, jumps}
use Rattle.oat_match.specs.{branches, calls, icalls, returns, finishes, operation_number, operation_of, AreCodes, words_become, label_of_block, symbols_of, HasValidNames, CodesAreOfTheProgram}
use Rattle.oat_match.specs.{IsBuiltWhole, IsCodeOf, codes_of, CallSitesAreFound, HasSourceNames, PlacesAreNamedBySource, SitesAreNamedBySource, is_site_item, World, slot, home_of, frame_size}
use Rattle.oat_match.specs.{return_address, is_leaf, home_load, argument_loads, behind_call, depth_tested, icall_code, IsBlockAt, IsLineAt, lines_code, words_before_line, role_words, Code.block_items}
use Rattle.oat_match.specs.{Code.instruction_items, Code.terminator_items, Compiled.IsCompiled, Compiled.ProgramsHaveWorlds, Compiled.world_of, Placed.EdgesAreNamed, Placed.IsLineEdge}
use Rattle.oat_match.specs.{Placed.address_of_line, Placed.call_arguments, Placed.code_line_at, Placed.edge_in_image, Placed.frame_at}
use Rattle.oat_gen.specs.{Code.block_code, Code.code_lines, Code.expanded_lines, Code.function_code, Code.line_code, Code.program_items, Marked.marked_return, GlobalPlaces.global_places}
use Rattle.oat_gen.specs.{GlobalPlaces.GlobalsHaveTheirPlaces, Laws.BlocksHaveTheirLines, Laws.FittingProgramsAreBuilt, Laws.FunctionsHaveTheirCode, Laws.MarkedCodeExpands, Laws.OtherCodeStays}
use Rattle.oat_build.specs.Built.{program_image, program_label, program_world, BuiltEdgesAreNamed, BuiltProgramsAreCompiled}
use Rattle.oat_build.proofs.{LineCode.block_same, SiteCode.before_call, SiteCode.before_call_sites, SiteCode.front_is, SiteCode.sites, SiteCode.sites_join, SiteCode.loads_have_none}
use Rattle.oat_build.proofs.{SiteCode.sites_before, SiteCode.words_before, SiteCode.split_lines, SiteCode.line_is_there, SiteCode.line_inside}
use Rattle.oat_map.specs.declared.row.Row.TheVariants as row
use Rattle.oat_asm.specs.declared.item.Item.TheVariants as item
use Rattle.oat_asm.specs.declared.mark.Mark.TheVariants as mark
use Rattle.oat_asm.specs.declared.note.Note.TheVariants as note

-- ---- a line that is there

pub record LineFound (p : Program) (at : LinePlace) (line : CodeLine) : Type 0 where
  pub func : Func
  pub block : BlockIr
  pub is : slice_get p.funcs at.func ≡ Some func
  pub has : slice_get func.blocks at.block ≡ Some block
  pub there : line_in block at.line ≡ Some line

line_found : (p : Program) (at : LinePlace) (line : CodeLine) → code_line_at p at ≡ Some line → LineFound p at line
line_found p at line h = by (slice_get p.funcs at.func) refl h where
  in_block : (func : Func) → slice_get p.funcs at.func ≡ Some func → (o : Option BlockIr) → slice_get func.blocks at.block ≡ o → option_and_then (λ b. line_in b at.line) o ≡ Some line → LineFound p at line
  in_block func is None has h = absurd (cc)
  in_block func is (Some block) has h = record { func = func; block = block; is = is; has = has; there = h }

  by : (o : Option Func) → slice_get p.funcs at.func ≡ o → option_and_then (λ func. option_and_then (λ b. line_in b at.line) (slice_get func.blocks at.block)) o ≡ Some line → LineFound p at line
  by None is h = absurd (cc)
  by (Some func) is h = in_block func is (slice_get func.blocks at.block) refl h

instrs_are : (p : Program) (at : LinePlace) (func : Func) (block : BlockIr) → slice_get p.funcs at.func ≡ Some func → slice_get func.blocks at.block ≡ Some block → instrs_of p at.func at.block ≡ block.instrs
instrs_are p at func block is has =
    ap (λ (o : Option Func). unwrap_or (option_and_then (λ g. option_map (λ b. b.instrs) (slice_get g.blocks at.block)) o) []) is
    ∙ ap (λ (o : Option BlockIr). unwrap_or (option_map (λ b. b.instrs) o) []) has

-- ---- behind a call: two instructions before the next line

back_at : (place from count : ℕ) → place ≡ from + 4 * count + 8 → from < 2 ^ 32 → count ≤ 2 → place - 8 ≡ (from + 4 * count) % 2 ^ 64
back_at place from count is low few = omega arith

-- ---- words before a transfer

loads_words : (r : ℕ) (ks : List ℕ) → words_become (argument_loads r ks) ≡ length ks
loads_words r [] = refl
loads_words r (k ∷ ks) = let rest = loads_words (r + 1) ks in omega arith

loads_need : (r : ℕ) (ks : List ℕ) → words_needed (argument_loads r ks) ≡ length ks
loads_need r [] = refl
loads_need r (k ∷ ks) = let rest = loads_need (r + 1) ks in omega arith

many_lines : (p : Program) (f : ℕ) (func : Func) (block : BlockIr) → length (block_items p f func block) ≡ length block.instrs + 1
many_lines p f func block = length-append (map (instruction_items p (is_leaf func)) block.instrs) (terminator_items p f func (is_leaf func) block.term ∷ []) ∙ ap (λ (n : ℕ). n + 1) (map_length (instruction_items p (is_leaf func)) block.instrs)

-- ---- sites

module _ (expands : MarkedCodeExpands) (stays : OtherCodeStays) (placing : GlobalsHaveTheirPlaces) (lined : BlocksHaveTheirLines) (coded : FunctionsHaveTheirCode) (sited : SitesAreNamedBySource) (p : Program) (ok : IsChecked p) (named : HasValidNames p) (whole : IsCompiled p (program_world p)) where
  own_code : (f : ℕ) (func : Func) → slice_get p.funcs f ≡ Some func → IsCodeOf (symbols_of p) func (function_code p f func)
  own_code f func is = coded p f func ok is

  block_formed : (f b : ℕ) (func : Func) (block : BlockIr) → slice_get p.funcs f ≡ Some func → slice_get func.blocks b ≡ Some block → IsBlockIr p func block
  block_formed f b func block is has = let formed : IsFunc p func = each_at (IsFunc p) p.funcs f func ok.well_formed.funcs is in each_at (IsBlockIr p func) func.blocks b block formed.blocks has

  -- the mark of a line stands behind so many words of its code
  site_is : (at : LinePlace) (line : CodeLine) (found : LineFound p at line) (pre post : List Item) (m : Mark) (n : ℕ)
      → line_code (global_places p) (label_of_block p at.func 0) found.func line ≡ pre ++ item.Mark m ∷ post → sites pre ≡ 0 → words_become pre ≡ n
      → site (program_image p).map (address_of_line (program_world p) at + 4 * n) ≡ source_site_name p (site_of_line p at)
  site_is at line found pre post m n code none words =
      let func = found.func in
      let block = found.block in
      let l = at.line in
      let places = global_places p in
      let first = label_of_block p at.func 0 in
      let codes = map (line_code places first func) (code_lines block) in
      let front = lines_code (take l codes) in
      let back = lines_code (drop (suc l) codes) in
      let inside = line_inside block l line found.there in
      let here : slice_get codes l ≡ Some (line_code places first func line) = map_get (line_code places first func) (code_lines block) l line (line_is_there block l line found.there) in
      let body : lines_code codes ≡ (front ++ pre) ++ item.Mark m ∷ (post ++ back) =
      split_lines codes l (line_code places first func line) here ∙ ap (λ (is : List Item). front ++ (is ++ back)) code ∙ ap (λ (is : List Item). front ++ is) (append_assoc pre (item.Mark m ∷ post) back)
      ∙ sym (append_assoc front pre (item.Mark m ∷ (post ++ back))) in
      let in_code : slice_get (function_code p at.func func).blocks at.block ≡ Some ((front ++ pre) ++ item.Mark m ∷ (post ++ back)) =
      map_get (block_code places first func) func.blocks at.block block found.has ∙ ap (λ (is : List Item). Some is) body in
      let count : count_by is_site_item (front ++ pre) ≡ count_by is_calling (take l (instrs_of p at.func at.block)) =
      sites_join front pre ∙ ap (λ (k : ℕ). sites front + k) none ∙ alone (sites front) ∙ sites_before places first func block.instrs block.term l inside
      ∙ ap (λ (is : List Instr). count_by is_calling (take l is)) (sym (instrs_are p at func block found.is found.has)) in
      let before : words_become front ≡ words_before_line (block_items p at.func func block) l =
      words_before places first func (code_lines block) l ∙ ap (λ (cs : List (List Item)). words_before_line cs l) (block_same expands stays p ok.well_formed placing at.func func block (block_formed at.func at.block func block found.is found.has).0) in
      let both : words_become (front ++ pre) ≡ words_become front + words_become pre = words_add front pre in
      let b : IsBlockAt (program_world p) at.func at.block (label_of_block p at.func at.block) (block_items p at.func func block) = whole.blocks at.func at.block func block found.is found.has in
      let long = many_lines p at.func func block in
      let place : address_of_line (program_world p) at ≡ program_label p (label_of_block p at.func at.block) + 4 * words_before_line (block_items p at.func func block) l = b.places l (omega arith) in
      let there : address_of_line (program_world p) at + 4 * n ≡ program_label p (label_of_block p at.func at.block) + 4 * words_become (front ++ pre) = omega arith in
      ap (site (program_image p).map) there
      ∙ sited p (function_code p) ok named own_code (site_of_line p at) func block (front ++ pre) (post ++ back) m found.is found.has in_code count where
        alone : (k : ℕ) → k + 0 ≡ k
        alone k = omega arith

  -- ---- each edge

  func_there : (f : ℕ) → f < length p.funcs → Func → (func : Func) × (slice_get p.funcs f ≡ Some func)
  func_there f less any = (get_or p.funcs f any, slice_get-get_or p.funcs f any less)

  block_there : (func : Func) (b : ℕ) → b < length func.blocks → BlockIr → (block : BlockIr) × (slice_get func.blocks b ≡ Some block)
  block_there func b less any = (get_or func.blocks b any, slice_get-get_or func.blocks b any less)

  instr_formed : (at : LinePlace) (i : Instr) (found : LineFound p at (instruction i)) → IsInstr p found.func i
  instr_formed at i found = formed_instr (block_formed at.func at.block found.func found.block found.is found.has).0 found.block.term at.line (nat_lt at.line (length found.block.instrs)) refl found.there where
    formed_instr : All (IsInstr p found.func) found.block.instrs → (t : Term) (n : ℕ) (b : Bool) → nat_lt n (length found.block.instrs) ≡ b
        → cond b (option_map instruction (slice_get found.block.instrs n)) (cond (nat_eq n (length found.block.instrs)) (Some (terminator t)) None) ≡ Some (instruction i) → IsInstr p found.func i
    formed_instr each t n true e h = at_line (slice_get found.block.instrs n) refl h where
      at_line : (o : Option Instr) → slice_get found.block.instrs n ≡ o → option_map instruction o ≡ Some (instruction i) → IsInstr p found.func i
      at_line None is h = absurd (cc)
      at_line (Some j) is h = let same : j ≡ i = cc in subst (IsInstr p found.func) same (each_at (IsInstr p found.func) found.block.instrs n j each is)
    formed_instr each t n false e h = at_end (nat_eq n (length found.block.instrs)) h where
      at_end : (c : Bool) → cond c (Some (terminator t)) None ≡ Some (instruction i) → IsInstr p found.func i
      at_end true h = absurd (cc)
      at_end false h = absurd (cc)

  term_formed : (at : LinePlace) (t : Term) (found : LineFound p at (terminator t)) → IsTerm found.func t
  term_formed at t found = formed_term (block_formed at.func at.block found.func found.block found.is found.has).1 at.line (nat_lt at.line (length found.block.instrs)) found.there where
    formed_term : IsTerm found.func found.block.term → (n : ℕ) (b : Bool) → cond b (option_map instruction (slice_get found.block.instrs n)) (cond (nat_eq n (length found.block.instrs)) (Some (terminator found.block.term)) None) ≡ Some (terminator t) → IsTerm found.func t
    formed_term one n true h = at_line (slice_get found.block.instrs n) h where
      at_line : (o : Option Instr) → option_map instruction o ≡ Some (terminator t) → IsTerm found.func t
      at_line None h = absurd (cc)
      at_line (Some j) h = absurd (cc)
    formed_term one n false h = at_end (nat_eq n (length found.block.instrs)) h where
      at_end : (c : Bool) → cond c (Some (terminator found.block.term)) None ≡ Some (terminator t) → IsTerm found.func t
      at_end true h = let same : found.block.term ≡ t = cc in subst (IsTerm found.func) same one
      at_end false h = absurd (cc)

  module _ (placed : HasSourceNames p (program_image p).map (program_label p)) where
    block_named : (at : LinePlace) (func : Func) (to : ℕ) → slice_get p.funcs at.func ≡ Some func → to < length func.blocks → BlockIr
        → place_name (program_image p).map (program_label p (label_of_block p at.func to)) ≡ source_block_name p (source_site at.func to 0)
    block_named at func to is less any = let b = block_there func to less any in placed.blocks (source_site at.func to 0) func b.0 is b.1

    func_named : (f : ℕ) → f < length p.funcs → Func → place_name (program_image p).map (program_label p f) ≡ source_func_name p (source_site f 0 0)
    func_named f less any = let g = func_there f less any in placed.functions (source_site f 0 0) g.0 g.1

    jump_named : (from : LinePlace) (to : ℕ) → code_line_at p from ≡ Some (terminator (Jump to)) → name_of (program_image p).map (edge_in_image p (program_world p) (jumps from to)) ≡ line_edge_name p (jumps from to)
    jump_named from to h =
        let found = line_found p from (terminator (Jump to)) h in
        let here = site_is from (terminator (Jump to)) found [] [] (mark.Jump (label_of_block p from.func 0 + to)) 0 refl refl refl in
        let none : address_of_line (program_world p) from ≡ address_of_line (program_world p) from + 4 * 0 = omega arith in
        ap (λ (s : Site). jump s (place_name (program_image p).map (program_label p (label_of_block p from.func to)))) (ap (site (program_image p).map) none ∙ here)
        ∙ ap (λ (o : Option PlaceName). jump (source_site_name p (site_of_line p from)) o) (block_named from found.func to found.is (term_formed from (Jump to) found) found.block)

    branch_site : (from : LinePlace) (x first second : ℕ) (found : LineFound p from (terminator (Branch x first second))) → site (program_image p).map (address_of_line (program_world p) from + 4) ≡ source_site_name p (site_of_line p from)
    branch_site from x first second found =
        site_is from (terminator (Branch x first second)) found (home_load 9 (home_of (is_leaf found.func) x) ∷ []) [] (mark.Branch (label_of_block p from.func 0 + first) (label_of_block p from.func 0 + second)) 1 refl refl refl

    branch_named : (from : LinePlace) (bit : Bool) (to x other : ℕ) → code_line_at p from ≡ Some (terminator (cond bit (Branch x to other) (Branch x other to)))
        → name_of (program_image p).map (edge_in_image p (program_world p) (branches from bit to)) ≡ line_edge_name p (branches from bit to)
    branch_named from true to x other h =
        let found = line_found p from (terminator (Branch x to other)) h in
        let formed = term_formed from (Branch x to other) found in
        ap (λ (s : Site). branch s true (place_name (program_image p).map (program_label p (label_of_block p from.func to)))) (branch_site from x to other found)
        ∙ ap (λ (o : Option PlaceName). branch (source_site_name p (site_of_line p from)) true o) (block_named from found.func to found.is formed.1 found.block)
    branch_named from false to x other h =
        let found = line_found p from (terminator (Branch x other to)) h in
        let formed = term_formed from (Branch x other to) found in
        ap (λ (s : Site). branch s false (place_name (program_image p).map (program_label p (label_of_block p from.func to)))) (branch_site from x other to found)
        ∙ ap (λ (o : Option PlaceName). branch (source_site_name p (site_of_line p from)) false o) (block_named from found.func to found.is formed.2 found.block)

    call_words_before : (args : List ℕ) → words_become (before_call args) ≡ 4 + length args
    call_words_before args =
        let both = words_add (argument_loads 0 args) [] in
        let loads = loads_words 0 args in
        omega arith

    call_site_is : (from : LinePlace) (x g : ℕ) (args : List ℕ) → LineFound p from (instruction (Call x g args)) → site (program_image p).map (address_of_line (program_world p) from + 16 + 4 * length args) ≡ source_site_name p (site_of_line p from)
    call_site_is from x g args found =
        let there : address_of_line (program_world p) from + 16 + 4 * length args ≡ address_of_line (program_world p) from + 4 * (4 + length args) = omega arith in
        ap (site (program_image p).map) there
        ∙ site_is from (instruction (Call x g args)) found (before_call args) (behind_call x) (mark.Call g) (4 + length args) (front_is args (item.Mark (mark.Call g) ∷ behind_call x)) (before_call_sites args) (call_words_before args)

    icall_site_is : (from : LinePlace) (x y : ℕ) (args : List ℕ) → LineFound p from (instruction (ICall x y args)) → site (program_image p).map (address_of_line (program_world p) from + 28 + 4 * length args) ≡ source_site_name p (site_of_line p from)
    icall_site_is from x y args found =
        let there : address_of_line (program_world p) from + 28 + 4 * length args ≡ address_of_line (program_world p) from + 4 * (7 + length args) = omega arith in
        let rest = call_words_before args in
        ap (site (program_image p).map) there
        ∙ site_is from (instruction (ICall x y args)) found (home_load 9 (slot (y + 1)) ∷ item.Note note.Check ∷ item.Inst (Cbnz 9 (pos 2)) ∷ item.Inst (Brk 3) ∷ before_call args) (behind_call x) (mark.ICall (length args)) (7 + length args)
        (ap (λ (is : List Item). home_load 9 (slot (y + 1)) ∷ item.Note note.Check ∷ item.Inst (Cbnz 9 (pos 2)) ∷ item.Inst (Brk 3) ∷ is) (front_is args (item.Mark (mark.ICall (length args)) ∷ behind_call x))) (before_call_sites args) (omega arith)

    call_named : (from : LinePlace) (g x : ℕ) (args : List ℕ) → code_line_at p from ≡ Some (instruction (Call x g args)) → name_of (program_image p).map (edge_in_image p (program_world p) (calls from g)) ≡ line_edge_name p (calls from g)
    call_named from g x args h =
        let found = line_found p from (instruction (Call x g args)) h in
        let formed = instr_formed from (Call x g args) found in
        ap (λ (o : Option CodeLine). call (site (program_image p).map (address_of_line (program_world p) from + 16 + 4 * length (call_arguments o))) (place_name (program_image p).map (program_label p g))) h
        ∙ ap (λ (s : Site). call s (place_name (program_image p).map (program_label p g))) (call_site_is from x g args found)
        ∙ ap (λ (o : Option PlaceName). call (source_site_name p (site_of_line p from)) o) (func_named g formed.1 found.func)

    icall_named : (from : LinePlace) (g x y : ℕ) (args : List ℕ) → g < length p.funcs → code_line_at p from ≡ Some (instruction (ICall x y args))
        → name_of (program_image p).map (edge_in_image p (program_world p) (icalls from g)) ≡ line_edge_name p (icalls from g)
    icall_named from g x y args less h =
        let found = line_found p from (instruction (ICall x y args)) h in
        ap (λ (o : Option CodeLine). icall (site (program_image p).map (address_of_line (program_world p) from + 28 + 4 * length (call_arguments o))) (place_name (program_image p).map (program_label p g))) h
        ∙ ap (λ (s : Site). icall s (place_name (program_image p).map (program_label p g))) (icall_site_is from x y args found)
        ∙ ap (λ (o : Option PlaceName). icall (source_site_name p (site_of_line p from)) o) (func_named g less found.func)

    -- ---- returns

    return_site_by : (from : LinePlace) (x : ℕ) (found : LineFound p from (terminator (Ret x))) (op : Option ℕ) → operation_number found.func.role ≡ op
        → site (program_image p).map (address_of_line (program_world p) from + 4 * (role_words op + 3)) ≡ source_site_name p (site_of_line p from)
    return_site_by from x found None is =
        site_is from (terminator (Ret x)) found (home_load 0 (home_of (is_leaf found.func) x) ∷ item.Inst (Ldr 30 31 0) ∷ item.Inst (AddImm 31 31 (frame_size (length found.func.locals))) ∷ []) [] mark.Ret 3
        (ap (λ (o : Option ℕ). marked_return (length found.func.locals) (home_of (is_leaf found.func) x) o) is) refl refl
    return_site_by from x found (Some op) is =
        site_is from (terminator (Ret x)) found (item.Mark (mark.End op) ∷ home_load 0 (home_of (is_leaf found.func) x) ∷ item.Inst (Ldr 30 31 0) ∷ item.Inst (AddImm 31 31 (frame_size (length found.func.locals))) ∷ []) [] mark.Ret 5
        (ap (λ (o : Option ℕ). marked_return (length found.func.locals) (home_of (is_leaf found.func) x) o) is) refl refl

    return_site_is : (from : LinePlace) (x : ℕ) → LineFound p from (terminator (Ret x)) → site (program_image p).map (address_of_line (program_world p) from + 4 * role_words (operation_of p from.func) + 12) ≡ source_site_name p (site_of_line p from)
    return_site_is from x found =
        let op = operation_number found.func.role in
        let number : operation_of p from.func ≡ op = ap (option_and_then (λ func. operation_number func.role)) found.is in
        let role : role_words (operation_of p from.func) ≡ role_words op = ap role_words number in
        let there : address_of_line (program_world p) from + 4 * role_words (operation_of p from.func) + 12 ≡ address_of_line (program_world p) from + 4 * (role_words op + 3) = omega arith in
        ap (site (program_image p).map) there ∙ return_site_by from x found op refl

    -- the code of a line stands at its place, and the next line behind it
    line_at : (at : LinePlace) (line : CodeLine) (found : LineFound p at line) → IsLineAt (program_world p) (frame_at at) (expansion (line_code (global_places p) (label_of_block p at.func 0) found.func line))
    line_at at line found =
        let b = whole.blocks at.func at.block found.func found.block found.is found.has in
        let code = (lined (global_places p) (label_of_block p at.func 0) found.func found.block).each at.line line found.there in
        let same = block_same expands stays p ok.well_formed placing at.func found.func found.block (block_formed at.func at.block found.func found.block found.is found.has).0 in
        let is = expansion (line_code (global_places p) (label_of_block p at.func 0) found.func line) in
        lines-stand (program_world p) (frame_at at) (label_of_block p at.func at.block) (block_items p at.func found.func found.block) is b
        (subst (λ (cs : List (List Item)). slice_get cs at.line ≡ Some is) same code)

    module _ (called_back : CallSitesAreFound) (formed_image : IsWellFormedImage (program_image p)) where
      -- a return site is named by the row that stands before it
      back_by : (back : LinePlace) (r : Row) → Contains (program_image p).map.rows r → is_call r ≡ true → return_address (program_world p) (frame_at back) ≡ after r
          → site (program_image p).map (address_of r) ≡ source_site_name p (site_of_line p back) → call_site (program_image p).map (return_address (program_world p) (frame_at back)) ≡ source_site_name p (site_of_line p back)
      back_by back r has is behind name =
          ap (call_site (program_image p).map) behind ∙ called_back (program_image p) r formed_image whole.shaped has is ∙ name

      row_low : (r : Row) → Contains (program_image p).map.rows r → IsRow r
      row_low r has = all_in IsRow (program_image p).map.rows r formed_image.rows.each has

      tests_words : (args : List ℕ) (is : List Item) → words_needed (depth_tested args is) ≡ 4 + length args + words_needed is
      tests_words args is =
          let both = words_of_two (argument_loads 0 args) is in
          let loads = loads_need 0 args in
          omega arith

      -- behind the test, the count and the arguments
      behind_tests : (at : ℕ) (args : List ℕ) (is : List Item) → ItemsStand (program_image p) (program_label p) at (depth_tested args is) → ItemsStand (program_image p) (program_label p) (at + 16 + 4 * length args) is
      behind_tests at args is stands =
          let rest = (stand_in_two (program_image p) (program_label p) (at + 4 + 4 + 4 + 4) (argument_loads 0 args) is stands.1.1.1.1.1).1 in
          let loads = loads_need 0 args in
          let there : at + 4 + 4 + 4 + 4 + 4 * words_needed (argument_loads 0 args) ≡ at + 16 + 4 * length args = omega arith in
          subst (λ (q : ℕ). ItemsStand (program_image p) (program_label p) q is) there rest

      call_back : (back : LinePlace) (x g : ℕ) (args : List ℕ) → LineFound p back (instruction (Call x g args)) → call_site (program_image p).map (return_address (program_world p) (frame_at back)) ≡ source_site_name p (site_of_line p back)
      call_back back x g args found =
          let here = line_at back (instruction (Call x g args)) found in
          let at = address_of_line (program_world p) back in
          let r = row.Call (at + 16 + 4 * length args) (program_label p g) in
          let code = expands.call args g x in
          let stands = behind_tests at args (item.Note (note.Call g) ∷ item.BranchTo Bl g ∷ behind_call x) (subst (λ (is : List Item). ItemsStand (program_image p) (program_label p) at is) code here.code) in
          let has : Contains (program_image p).map.rows r = found-contains (is_over (at + 16 + 4 * length args)) (program_image p).map.rows r (stands.0 (at + 16 + 4 * length args) (omega arith) (omega arith)) in
          let low : at + 16 + 4 * length args < 2 ^ 32 = (row_low r has).0 in
          let words : words_needed (expansion (line_code (global_places p) (label_of_block p back.func 0) found.func (instruction (Call x g args)))) ≡ 4 + length args + 3 = ap words_needed code ∙ tests_words args (item.Note (note.Call g) ∷ item.BranchTo Bl g ∷ behind_call x) in
          let next = here.next in
          let behind : return_address (program_world p) (frame_at back) ≡ after r = back_at ((program_world p).place back.func back.block (back.line + 1)) (at + 16 + 4 * length args) 1 (omega arith) low (omega arith) in
          back_by back r has refl behind (call_site_is back x g args found)

      icall_back : (back : LinePlace) (x y : ℕ) (args : List ℕ) → LineFound p back (instruction (ICall x y args)) → call_site (program_image p).map (return_address (program_world p) (frame_at back)) ≡ source_site_name p (site_of_line p back)
      icall_back back x y args found =
          let here = line_at back (instruction (ICall x y args)) found in
          let at = address_of_line (program_world p) back in
          let r = row.ICall (at + 28 + 4 * length args) (length args) in
          let code = expands.icall args y x in
          let called = item.Note (note.ICall (length args)) ∷ item.Inst (Svc 4) ∷ item.Inst (Blr 9) ∷ behind_call x in
          let all : ItemsStand (program_image p) (program_label p) at (icall_code args y x) = subst (λ (is : List Item). ItemsStand (program_image p) (program_label p) at is) code here.code in
          let tested = behind_tests (at + 4 + 4 + 4) args called all.1.1.1.1 in
          let there : at + 4 + 4 + 4 + 16 + 4 * length args ≡ at + 28 + 4 * length args = omega arith in
          let stands = subst (λ (q : ℕ). ItemsStand (program_image p) (program_label p) q called) there tested in
          let has : Contains (program_image p).map.rows r = found-contains (is_over (at + 28 + 4 * length args)) (program_image p).map.rows r (stands.0 (at + 28 + 4 * length args) (omega arith) (omega arith)) in
          let low : at + 28 + 4 * length args < 2 ^ 32 = (row_low r has).0 in
          let tests = tests_words args called in
          let words : words_needed (expansion (line_code (global_places p) (label_of_block p back.func 0) found.func (instruction (ICall x y args)))) ≡ 3 + (4 + length args + 4) = ap words_needed code ∙ ap (λ (n : ℕ). 1 + (0 + (1 + (1 + n)))) tests ∙ three (4 + length args + 4) in
          let next = here.next in
          let behind : return_address (program_world p) (frame_at back) ≡ after r = back_at ((program_world p).place back.func back.block (back.line + 1)) (at + 28 + 4 * length args) 2 (omega arith) low (omega arith) in
          back_by back r has refl behind (icall_site_is back x y args found) where
            three : (n : ℕ) → 1 + (0 + (1 + (1 + n))) ≡ 3 + n
            three n = omega arith

      any_back : (back : LinePlace) (i : Instr) → code_line_at p back ≡ Some (instruction i) → is_calling i ≡ true → call_site (program_image p).map (return_address (program_world p) (frame_at back)) ≡ source_site_name p (site_of_line p back)
      any_back back (Call x g args) h calling = call_back back x g args (line_found p back (instruction (Call x g args)) h)
      any_back back (ICall x y args) h calling = icall_back back x y args (line_found p back (instruction (ICall x y args)) h)
      any_back back (Const x value) h calling = absurd (cc)
      any_back back (Copy x y) h calling = absurd (cc)
      any_back back (Binary op x y z) h calling = absurd (cc)
      any_back back (Load x g) h calling = absurd (cc)
      any_back back (Store g x) h calling = absurd (cc)
      any_back back (LoadX x g i) h calling = absurd (cc)
      any_back back (StoreX g i x) h calling = absurd (cc)
      any_back back (RefTo x g) h calling = absurd (cc)
      any_back back (Input x) h calling = absurd (cc)
      any_back back (Output x) h calling = absurd (cc)

      edge_named : (edge : LineEdge) → IsLineEdge p edge → name_of (program_image p).map (edge_in_image p (program_world p) edge) ≡ line_edge_name p edge
      edge_named (jumps from to) is = jump_named from to is
      edge_named (branches from bit to) is = branch_named from bit to is.0 is.1 is.2
      edge_named (calls from g) is = call_named from g is.0 is.1 is.2
      edge_named (icalls from g) is = icall_named from g is.1 is.2 is.3 is.0 is.4
      edge_named (returns from back) is =
          let found = line_found p from (terminator (Ret is.0)) is.1 in
          ap (λ (s : Site). return s (call_site (program_image p).map (return_address (program_world p) (frame_at back)))) (return_site_is from is.0 found)
          ∙ ap (λ (s : Site). return (source_site_name p (site_of_line p from)) s) (any_back back is.2 is.3 is.4)
      edge_named (finishes op) is = refl

pub built_edges_are_named : MarkedCodeExpands → OtherCodeStays → GlobalsHaveTheirPlaces → BlocksHaveTheirLines → FunctionsHaveTheirCode → FittingProgramsAreBuilt → CodesAreOfTheProgram → SitesAreNamedBySource → PlacesAreNamedBySource → CallSitesAreFound
    → BuiltProgramsAreCompiled → BuiltEdgesAreNamed
built_edges_are_named expands stays placing lined coded fitting codes sited places_named called_back compiled p ok named few =
    let built : IsBuiltWhole p (program_items p) = fitting p ok named few in
    let are = codes p (function_code p) (λ f func is. coded p f func ok is) in
    let placed = places_named p (codes_of (function_code p) p) ok named are in
    record { named = edge_named expands stays placing lined coded sited p ok named (compiled p ok named few) placed called_back built.well.well_formed }
