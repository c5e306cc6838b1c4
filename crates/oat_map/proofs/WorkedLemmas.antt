-- The walks of the worked maps.
use Rattle.std.proofs.Common.{◌≡◌, ℕ, ◌+◌, true, List, [], ◌∷◌, ◌++◌, length, take, None, Some, refl, sym, ap, subst, ◌∙◌, inl, arith, lit<}
use Rattle.std.specs.{Prelude.codes, List.slice_get, Option.option_and_then}
use Rattle.std.proofs.lemmas.Option.{slice_get_past}
use Rattle.oat_map.specs.{declared.row.Row.TheVariants.Jump, declared.row.Row.TheVariants.Branch, declared.row.Row.TheVariants.Call, declared.row.Row.TheVariants.ICall}
use Rattle.oat_map.specs.{declared.row.Row.TheVariants.Ret, declared.row.Row.TheVariants.End, declared.row.Row.TheVariants.UseCell, declared.row.Row.TheVariants.Check, Rows.next}
use Rattle.oat_map.specs.{Rows.IsIndirectTarget, Walk.Step, Walk.passed, Walk.moved, Walk.return_site_of, Walk.depth, Walk.Returns, Walk.Leads, Worked.jump_map, Worked.JumpIsWalked, Worked.calls_map}
use Rattle.oat_map.specs.{Worked.CallsAreWalked, Worked.function_named}
use Rattle.oat_map.specs.declared.edge.Edge.TheVariants as edges

only_jump : (front : List Step) (place end_address : ℕ) → Leads jump_map [] 0x10008 front place
    → next jump_map.rows place ≡ Some (End end_address 1) → front ≡ moved (edges.Jump 0x10008 0x1000C) ∷ []
only_jump [] place end_address leads ends =
    let at_jump = rw (← leads) at ends in absurd (cc)
only_jump (step ∷ []) place end_address (middle, (row, at_row, goes), leads) ends =
    let same : Jump 0x10008 0x1000C ≡ row = cc in
    let taken = rw (← same) at goes in
    ap (λ first. first ∷ []) taken.0
only_jump (step ∷ other ∷ more) place end_address (middle, (row, at_row, goes), (further, (row', at_row', goes'), leads)) ends =
    let same : Jump 0x10008 0x1000C ≡ row = cc in
    let taken = rw (← same) at goes in
    let at_end : Some (End 0x1000C 1) ≡ Some row' = rw taken.1 at at_row' in
    let same_end : End 0x1000C 1 ≡ row' = cc in
    let never = rw (← same_end) at goes' in absurd never

pub jump_walked : JumpIsWalked
jump_walked = (
  record {
    front = moved (edges.Jump 0x10008 0x1000C) ∷ [];
    place = 0x1000C;
    partial = record { from = 0x10008; starts = refl; leads = (0x1000C, (Jump 0x10008 0x1000C, refl, (refl, refl)), refl) };
    closed = refl;
    end_address = 0x1000C;
    at_end = refl;
    whole = refl;
  },
  λ steps walk.
      let starts : Some 0x10008 ≡ Some walk.partial.from = walk.partial.starts in
      let from : 0x10008 ≡ walk.partial.from = cc in
      let leads : Leads jump_map [] 0x10008 walk.front walk.place = subst (λ place. Leads jump_map [] place walk.front walk.place) (sym from) walk.partial.leads in
      walk.whole ∙ ap (λ front. front ++ moved (edges.End 1) ∷ []) (only_jump walk.front walk.place walk.end_address leads walk.at_end),
)

-- a return directly behind its call
returns_at_once : (before : List Step) (level place back : ℕ) → depth before ≡ level + 1 → length before ≡ place + 1
    → option_and_then return_site_of (slice_get before place) ≡ Some back → depth (take place before) ≡ level → Returns before back
returns_at_once before level place back open_calls last call at_level = record {
  level = level;
  open_calls = open_calls;
  place = place;
  matching = record {
    call = call;
    at_level = at_level;
    last = λ later site above found.
        let past : slice_get before later ≡ None = slice_get_past before later (omega arith) in
        let never = rw past at found in absurd (cc);
  };
}

pub calls_walked : CallsAreWalked
calls_walked =
    let one = moved (edges.Call 0x10018 0x10084) in
    let two = moved (edges.Ret 0x10094 0x1001C) in
    let three = moved (edges.Call 0x1001C 0x10084) in
    let four = moved (edges.Ret 0x10094 0x10020) in
    let six = moved (edges.ICall 0x10034 0x1009C) in
    let seven = moved (edges.Ret 0x100A0 0x1003C) in
    let nine = moved (edges.Branch 0x10058 true 0x10064) in
    let ten = moved (edges.Jump 0x10068 0x1006C) in
    let up : IsIndirectTarget calls_map.functions 0 0x1009C = record {
      function = function_named (codes "up") 0x1009C 0 true;
      among = (3, lit< tt, refl);
      entry = refl;
      same_params = refl;
      referenced = refl;
    } in
    record {
      steps = one ∷ two ∷ three ∷ four ∷ passed ∷ six ∷ seven ∷ passed ∷ nine ∷ ten ∷ moved (edges.End 2) ∷ [];
      walk = record {
        front = one ∷ two ∷ three ∷ four ∷ passed ∷ six ∷ seven ∷ passed ∷ nine ∷ ten ∷ [];
        place = 0x1006C;
        partial = record {
          from = 0x10018;
          starts = refl;
          leads = (
            0x10084,
            (Call 0x10018 0x10084, refl, (refl, refl)),
            (
              0x1001C,
              (Ret 0x10094, refl, (refl, returns_at_once (one ∷ []) 0 0 0x1001C refl refl refl refl)),
              (
                0x10084,
                (Call 0x1001C 0x10084, refl, (refl, refl)),
                (
                  0x10020,
                  (Ret 0x10094, refl, (refl, returns_at_once (one ∷ two ∷ three ∷ []) 0 2 0x10020 refl refl refl refl)),
                  (
                    0x10034,
                    (Check 0x1002C, refl, (refl, refl)),
                    (
                      0x1009C,
                      (ICall 0x10034 0, refl, (refl, up)),
                      (
                        0x1003C,
                        (Ret 0x100A0, refl, (refl, returns_at_once (one ∷ two ∷ three ∷ four ∷ passed ∷ six ∷ []) 0 5 0x1003C refl refl refl refl)),
                        (
                          0x10050,
                          (UseCell 0x1003C 0, refl, (refl, refl)),
                          (
                            0x10064,
                            (Branch 0x10058 0x10064 0x1006C, refl, inl (refl, refl)),
                            (
                              0x1006C,
                              (Jump 0x10068 0x1006C, refl, (refl, refl)),
                              refl,
                            ),
                          ),
                        ),
                      ),
                    ),
                  ),
                ),
              ),
            ),
          );
        };
        closed = refl;
        end_address = 0x1006C;
        at_end = refl;
        whole = refl;
      };
      path = refl;
      bits = refl;
      targets = refl;
      returns = refl;
      names = refl;
    }
