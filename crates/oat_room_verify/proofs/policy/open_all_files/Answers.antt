use Rattle.std.proofs.Common.{◌∷◌, [], ◌≡◌, ℕ, List, map, get_or, ap, subst}
use Rattle.std.proofs.lemmas.Result.{err_from_is_err_and}
use Rattle.oat_page.proofs.Lists.{four_of}
use Rattle.oat_shown.specs.{blob_limit, case_limit, image_limit, policy_limit, File}
use Rattle.oat_room_verify.proofs.{Digits.blob_text, Policing.polices_rejected, Policing.polices_no_blob, Policing.polices_no_policy}
use Rattle.oat_room_verify.proofs.policy.open_all_files.Goals as goal

pub policy_in-requires : goal.policy_in-requires
policy_in-requires c =
    let files = four_of (λ (f : File). f.limit) c.args.files.now c.index-files-0.result c.index-files-1.result c.index-files-2.result c.index-files-3.result
    _ _ _ _ c.requires c.index-files-0.is c.index-files-1.is c.index-files-2.is c.index-files-3.is in
    ap (λ (limits : List ℕ). get_or limits 3 c.index-files-3.result.limit)
    (subst (λ (fs : List File). map (λ (f : File). f.limit) fs ≡ image_limit ∷ case_limit ∷ blob_limit ∷ policy_limit ∷ []) files c.requires)

pub returns-in_err-admitted : goal.returns-in_err-admitted
returns-in_err-admitted c =
    let p = err_from_is_err_and c.from_residual.result c.from_residual.ensures.1 in
    let files = four_of (λ (f : File). f.limit) c.args.files.now c.index-files-0.result c.index-files-1.result c.index-files-2.result c.index-files-3.result
    _ _ _ _ c.requires c.index-files-0.is c.index-files-1.is c.index-files-2.is c.index-files-3.is in
    rw (p.1, p.2, files) (polices_rejected c.index-files-0.result c.index-files-1.result c.index-files-2.result c.index-files-3.result _ c.in_err-admitted.ensures)

pub returns-in_err-digits : goal.returns-in_err-digits
returns-in_err-digits c =
    let p = err_from_is_err_and c.from_residual-in_err-digits.result c.from_residual-in_err-digits.ensures.1 in
    let files = four_of (λ (f : File). f.limit) c.args.files.now c.index-files-0.result c.index-files-1.result c.index-files-2.result c.index-files-3.result
    _ _ _ _ c.requires c.index-files-0.is c.index-files-1.is c.index-files-2.is c.index-files-3.is in
    rw (p.1, p.2, files) (polices_no_blob c.index-files-0.result c.index-files-1.result c.index-files-2.result c.index-files-3.result _ _ _
    c.in_ok-admitted.ensures c.in_err-digits.ensures)

pub returns-in_err-rules : goal.returns-in_err-rules
returns-in_err-rules c =
    let p = err_from_is_err_and c.from_residual-in_err-rules.result c.from_residual-in_err-rules.ensures.1 in
    let files = four_of (λ (f : File). f.limit) c.args.files.now c.index-files-0.result c.index-files-1.result c.index-files-2.result c.index-files-3.result
    _ _ _ _ c.requires c.index-files-0.is c.index-files-1.is c.index-files-2.is c.index-files-3.is in
    rw (p.1, p.2, files) (polices_no_policy c.index-files-0.result c.index-files-1.result c.index-files-2.result c.index-files-3.result _ _ _ _
    c.in_ok-admitted.ensures (blob_text _ _ _ c.in_ok-digits.ensures c.in_ok-digits.ensures.decoded.1) c.in_err-rules.ensures)

pub returns : goal.returns
returns c = record {
  image = c.index-files-0.result;
  case = c.index-files-1.result;
  blob = c.index-files-2.result;
  policy = c.index-files-3.result;
  are = four_of (λ (f : File). f.limit) c.args.files.now c.index-files-0.result c.index-files-1.result c.index-files-2.result c.index-files-3.result
      _ _ _ _ c.requires c.index-files-0.is c.index-files-1.is c.index-files-2.is c.index-files-3.is;
  admitted = c.in_ok-admitted.ensures;
  spelled = c.in_ok-digits.ensures;
  read = c.in_ok-rules.ensures;
}
