-- Fronts of bytes that begin a blob, and the offset at which bytes stop being one.
use Rattle.std.proofs.Common.{◌≡◌, ℕ, suc, ◌<◌, ◌≤◌, ◌^◌, List, [], ◌++◌, None, length, take, drop, replicate, refl, ap, sym, subst, ◌∙◌, arith, append_assoc}
use Rattle.std.proofs.lemmas.{List.Elements.All-nil, List.Elements.All-replicate, List.append-nil, List.length-replicate, List.take-append-drop, List.take-take, List.take_all}
use Rattle.oat_verify.specs.{AreBytes, Body, IsBody, IsBlob, covered_of, BeginsBlob, IsFormOffset}

-- a shorter front begins a blob where a longer one does
pub begins_less : (n m : ℕ) (came : List ℕ) → n ≤ m → BeginsBlob (take m came) → BeginsBlob (take n came)
begins_less n m came below (body, mac, rest, is) =
    let front : take n (take m came) ≡ take n came = take-take n m came below in
    let same : take m came ++ rest ≡ take n came ++ (drop n (take m came) ++ rest) =
    ap (λ xs. xs ++ rest) (sym (take-append-drop n (take m came)) ∙ ap (λ xs. xs ++ drop n (take m came)) front) ∙ append_assoc (take n came) (drop n (take m came)) rest in
    (body, mac, drop n (take m came) ++ rest, subst (λ (bytes : List ℕ). IsBlob bytes body mac) same is)

zeros : (n : ℕ) → AreBytes n (replicate n 0)
zeros n = record { counted = length-replicate n 0; below = All-replicate (λ byte. byte < 256) n 0 (omega arith) }

-- a blob of zeros
abbrev some_body : Body
some_body = record {
  head = record { op = 0; nonce = replicate 16 0; digest = replicate 32 0; hash = replicate 32 0; violation = None; serial = None };
  bits = [];
  targets = [];
}

some_body_fits : IsBody some_body
some_body_fits = record {
  op = omega arith;
  nonce = zeros 16;
  digest = zeros 32;
  hash = zeros 32;
  violation = tt;
  serial = tt;
  bits = omega arith;
  targets = omega arith;
  addresses = All-nil (λ target. target < 2 ^ 64);
}

-- no bytes begin a blob
pub begins_nothing : BeginsBlob []
begins_nothing = (some_body, replicate 32 0, covered_of some_body ++ replicate 32 0, record { body_fits = some_body_fits; mac_fits = zeros 32; layout = refl })

pub begins_whole : (came mac : List ℕ) (body : Body) → IsBlob came body mac → BeginsBlob came
begins_whole came mac body is = (body, mac, [], subst (λ (bytes : List ℕ). IsBlob bytes body mac) (sym (append-nil came)) is)

pub form_at : (came : List ℕ) (k : ℕ) → k < length came → BeginsBlob (take k came) → (BeginsBlob (take (suc k) came) → ⊥) → IsFormOffset came k
form_at came k within begins stops = record {
  within = omega arith;
  begins = begins;
  longest = λ more below above longer. stops (begins_less (suc k) more came (omega arith) longer);
  no_blob = λ body mac is. stops (begins_less (suc k) (length came) came (omega arith) (subst BeginsBlob (sym (take_all (length came) came (omega arith))) (begins_whole came mac body is)));
}
