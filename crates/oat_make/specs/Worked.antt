-- The drill of 1 as another program computed it: what is drawn, its outputs, and how many steps it takes.
use Rattle.std.specs.{Prelude.◌≡◌, Prelude.ℕ, Prelude.ℤ, Prelude.pos, Prelude.List, Prelude.[], Prelude.◌∷◌, Prelude.map, List.range_with_len}
use Rattle.oat_check.specs.{Halted, OutOfSteps, Shown.source_end, Shown.source_outputs}
use Rattle.oat_make.specs.Drill.{drill_limit, drill_constant, drill_inputs, drill_program}

abbrev pub integers : List ℕ → List ℤ
integers numbers = map (λ n. pos n) numbers

abbrev pub first_constants : List ℤ
first_constants = integers (53 ∷ 96 ∷ 70 ∷ 34 ∷ 95 ∷ 30 ∷ 2 ∷ 89 ∷ 46 ∷ 23 ∷ 2 ∷ 52 ∷ 0 ∷ 34 ∷ 12 ∷ 90 ∷ [])

abbrev pub first_inputs : List ℤ
first_inputs =
    integers (
    495 ∷ 332 ∷ 365 ∷ 627 ∷ 357 ∷ 926 ∷ 410 ∷ 669 ∷ 328 ∷ 4 ∷ 872 ∷ 121 ∷ 968 ∷ 607 ∷ 538 ∷ 708 ∷ 925 ∷ 494 ∷ 82 ∷ 786 ∷ 858 ∷ 316 ∷ 589 ∷ 455 ∷ 172 ∷
    410 ∷ 80 ∷ 861 ∷ 934 ∷ 508 ∷ 901 ∷ 63 ∷ 394 ∷ 522 ∷ 544 ∷ 636 ∷ 794 ∷ 461 ∷ 0 ∷ 718 ∷ 955 ∷ 207 ∷ 830 ∷ 753 ∷ 462 ∷ 748 ∷ 341 ∷ 151 ∷ 55 ∷ 83 ∷
    856 ∷ 522 ∷ 479 ∷ 442 ∷ 341 ∷ 689 ∷ 108 ∷ 975 ∷ 988 ∷ 89 ∷ 94 ∷ 935 ∷ 925 ∷ 361 ∷ 947 ∷ 199 ∷ 978 ∷ 642 ∷ 857 ∷ 920 ∷ 131 ∷ 448 ∷ 542 ∷ 22 ∷ 608 ∷
    127 ∷ 334 ∷ 929 ∷ 738 ∷ 941 ∷ []
    )

abbrev pub first_outputs : List ℤ
first_outputs =
    integers (
    502 ∷ 339 ∷ 372 ∷ 634 ∷ 364 ∷ 159 ∷ 417 ∷ 676 ∷ 335 ∷ 11 ∷ 105 ∷ 128 ∷ 201 ∷ 614 ∷ 545 ∷ 715 ∷ 158 ∷ 501 ∷ 89 ∷ 19 ∷ 91 ∷ 323 ∷ 596 ∷ 462 ∷ 179 ∷
    417 ∷ 87 ∷ 94 ∷ 167 ∷ 515 ∷ 134 ∷ 70 ∷ 401 ∷ 529 ∷ 551 ∷ 643 ∷ 27 ∷ 468 ∷ 7 ∷ 725 ∷ 188 ∷ 214 ∷ 63 ∷ 760 ∷ 469 ∷ 755 ∷ 348 ∷ 158 ∷ 62 ∷ 90 ∷ 89 ∷
    529 ∷ 486 ∷ 449 ∷ 348 ∷ 696 ∷ 115 ∷ 208 ∷ 221 ∷ 96 ∷ 101 ∷ 168 ∷ 158 ∷ 368 ∷ 180 ∷ 206 ∷ 211 ∷ 649 ∷ 90 ∷ 153 ∷ 138 ∷ 455 ∷ 549 ∷ 29 ∷ 615 ∷ 134 ∷
    341 ∷ 162 ∷ 745 ∷ 174 ∷ []
    )

pub record FirstDrillIsShown : Type 0 where
  pub limit : drill_limit 1 ≡ pos 774
  pub constants : map (drill_constant 1) (range_with_len 0 16) ≡ first_constants
  pub inputs : drill_inputs 1 ≡ first_inputs
  pub outputs : source_outputs (drill_program 1) (drill_inputs 1) 10191 ≡ first_outputs
  pub ended : source_end (drill_program 1) (drill_inputs 1) 10191 ≡ Halted
  pub not_before : source_end (drill_program 1) (drill_inputs 1) 10190 ≡ OutOfSteps
