-- A front to which a chunk is put.
use Rattle.std.proofs.Common.{◌≡◌, ℕ, suc, ◌+◌, ◌-◌, ◌<◌, ◌≤◌, List, [], ◌++◌, length, take, drop, ap, sym, subst, ◌∙◌, arith, append_assoc, length-append}
use Rattle.std.specs.Prelude.{Result, Ok, Err, OnErr}
use Rattle.std.proofs.Math.Seq.{take-add}
use Rattle.std.proofs.lemmas.List.{length-take-le, take-append-drop, take-append-le, take_all}
use Rattle.oat_verify.specs.{Body, IsBlob, BeginsBlob}
use Rattle.oat_feed.specs.{declared.intake.State.TheVariants.Open, declared.intake.State.TheVariants.Broken, RecordBytes.HasRecordByte, RecordBytes.IsRecordByte, RecordPlaces.records_before}
use Rattle.oat_feed.specs.{Standing.KeepsRoom, Standing.KeepsFront}
use Rattle.oat_feed.proofs.{Fronts.begins_nothing, RoomLeft.found, RoomLeft.found_more, RoomLeft.others_are_few}

pub opens : (front : List ℕ) (capacity : ℕ) → front ≡ [] → 4248 ≤ capacity → BeginsBlob front × KeepsFront Open [] front capacity
opens front capacity empty room =
    let none : length front ≡ 0 = ap length empty in
    (subst BeginsBlob (sym empty) begins_nothing, (sym empty, λ body mac rest blob. omega (arith, none, room)))

-- there is room for a chunk
pub has_room : (front chunk : List ℕ) (capacity : ℕ) → BeginsBlob front → KeepsRoom front capacity → length chunk ≤ 4096 → length front + length chunk ≤ capacity
has_room front chunk capacity (body, mac, rest, blob) room short =
    let few = others_are_few front rest mac body blob in
    let kept = room body mac rest blob in
    omega (arith, few, kept, short)

-- the chunk goes on as no blob does
pub breaks : (came front chunk whole kept : List ℕ) (capacity k : ℕ) → came ≡ front → whole ≡ front ++ chunk → kept ≡ take k whole → k < length whole → BeginsBlob (take k whole)
    → (BeginsBlob (take (suc k) whole) → ⊥) → BeginsBlob kept × KeepsFront Broken (came ++ chunk) kept capacity
breaks came front chunk whole kept capacity k same joined cut within begins stops =
    let all : whole ≡ came ++ chunk = joined ∙ ap (λ xs. xs ++ chunk) (sym same) in
    let long : length kept ≡ k = ap length cut ∙ length-take-le k whole (omega arith) in
    let size : length whole ≡ length (came ++ chunk) = ap length all in (
      subst BeginsBlob (sym cut) begins,
      (
        omega (arith, long, size, within),
        cut ∙ (ap (take k) all ∙ ap (λ n. take n (came ++ chunk)) (sym long)),
        λ more. stops (subst (λ (n : ℕ). BeginsBlob (take (suc n) whole)) long (subst (λ (xs : List ℕ). BeginsBlob (take (suc (length kept)) xs)) (sym all) more)),
      ),
    )

-- the chunk goes on as a blob does, and there is room for a further one
pub extends : (came front chunk whole : List ℕ) (capacity k records : ℕ) → came ≡ front → whole ≡ front ++ chunk → length whole ≤ k → BeginsBlob (take k whole)
    → ((body : Body) (mac rest : List ℕ) → IsBlob (whole ++ rest) body mac → records ≡ records_before body (length whole))
    → length whole + ((records + 4248) - length whole) ≤ capacity → BeginsBlob whole × KeepsFront Open (came ++ chunk) whole capacity
extends came front chunk whole capacity k records same joined all begins counted room = (
  subst BeginsBlob (take_all k whole all) begins,
  (ap (λ xs. xs ++ chunk) same ∙ sym joined, λ body mac rest blob. omega (arith, counted body mac rest blob, room)),
)

-- where memory is wanting for it, one of its bytes is a record byte
pub starves : (came front chunk whole : List ℕ) (before capacity k records : ℕ) → came ≡ front → whole ≡ front ++ chunk → KeepsRoom front before → before ≤ capacity
    → length whole ≤ k → BeginsBlob (take k whole) → ((body : Body) (mac rest : List ℕ) → IsBlob (whole ++ rest) body mac → records ≡ records_before body (length whole))
    → capacity < length whole + ((records + 4248) - length whole) → HasRecordByte came chunk
starves came front chunk whole before capacity k records same joined room more all begins counted short =
    let (body, mac, rest, blob) = subst BeginsBlob (take_all k whole all) begins in
    let is : records ≡ records_before body (length whole) = counted body mac rest blob in
    let few = others_are_few whole rest mac body blob in
    let parted : IsBlob ((front ++ chunk) ++ rest) body mac = subst (λ (xs : List ℕ). IsBlob (xs ++ rest) body mac) joined blob in
    let kept = room body mac (chunk ++ rest) (subst (λ (xs : List ℕ). IsBlob xs body mac) (append_assoc front chunk rest) parted) in
    let size : length whole ≡ length (front ++ chunk) = ap length joined in
    let grown : records_before body (length front) < records_before body (length whole) = omega (arith, is, few, kept, more, short) in
    subst (λ (xs : List ℕ). HasRecordByte xs chunk) (sym same)
    (found front chunk rest mac body parted (subst (λ (n : ℕ). records_before body (length front) < records_before body n) size grown))

-- behind a break nothing changes
pub broken_more : (came front chunk : List ℕ) (capacity : ℕ) → KeepsFront Broken came front capacity → KeepsFront Broken (came ++ chunk) front capacity
broken_more came front chunk capacity (within, kept, stops) =
    let sum = length-append came chunk in
    let same : take (suc (length front)) (came ++ chunk) ≡ take (suc (length front)) came = take-append-le (suc (length front)) came chunk (omega arith) in
    let fronts : take (length front) (came ++ chunk) ≡ take (length front) came = take-append-le (length front) came chunk (omega arith) in
    (omega (arith, within, sum), kept ∙ sym fronts, λ more. stops (subst BeginsBlob same more))

-- ---- chunks of a piece

pub chunk_joined : (bytes : List ℕ) (done end : ℕ) → done ≤ end → take done bytes ++ take (end - done) (drop done bytes) ≡ take end bytes
chunk_joined bytes done end below =
    let sum : done + (end - done) ≡ end = omega arith in
    sym (take-add done (end - done) bytes) ∙ ap (λ n. take n bytes) sum

-- a record byte of a chunk is one of the piece
pub chunk_byte : (came bytes : List ℕ) (done end : ℕ) → done ≤ end → HasRecordByte (came ++ take done bytes) (take (end - done) (drop done bytes)) → HasRecordByte came bytes
chunk_byte came bytes done end below (place, behind, byte) =
    let more = found_more (came ++ take done bytes) (take (end - done) (drop done bytes)) (drop end bytes) (place, behind, byte) in
    let fronts : take done bytes ++ take (end - done) (drop done bytes) ≡ take end bytes = chunk_joined bytes done end below in
    let whole : (came ++ take done bytes) ++ (take (end - done) (drop done bytes) ++ drop end bytes) ≡ came ++ bytes =
    append_assoc came (take done bytes) (take (end - done) (drop done bytes) ++ drop end bytes)
    ∙ ap (λ xs. came ++ xs) (sym (append_assoc (take done bytes) (take (end - done) (drop done bytes)) (drop end bytes))
    ∙ (ap (λ xs. xs ++ drop end bytes) fronts ∙ take-append-drop end bytes)) in
    let sum = length-append came (take done bytes) in
    (more.0, omega (arith, more.1, sum), subst (λ (xs : List ℕ). IsRecordByte xs more.0) whole more.2)

pub on_an_err : {X E P : Type 0} (r : Result X E) → P → OnErr r P
on_an_err (Ok x) p = tt
on_an_err (Err e) p = p
