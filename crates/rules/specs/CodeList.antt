-- Source document 000, Appendix A: the uniform list of type codes, page by page as it is printed there. Assumes nothing.
use Rattle.std.specs.Prelude.{ℕ, Bool, true, false, cond, List, [], ◌∷◌, ◌++◌, eqb}

-- "Level"; a code that is printed as both a summary and a detail would be of both (none is)
pub data Level : Type 0 where
  Status Summary Detail SummaryAndDetail : Level

abbrev pub is_status : Level → Bool
is_status Status = true
is_status Summary = false
is_status Detail = false
is_status SummaryAndDetail = false

abbrev pub is_summary : Level → Bool
is_summary Status = false
is_summary Summary = true
is_summary Detail = false
is_summary SummaryAndDetail = true

abbrev pub is_detail : Level → Bool
is_detail Status = false
is_detail Summary = false
is_detail Detail = true
is_detail SummaryAndDetail = true

-- what the list says of a code: nothing; or its level and, by "Transaction", that it is neither a credit nor a debit (NA), a credit (CR) or a debit (DB)
pub data Entry : Type 0 where
  unlisted : Entry
  NA CR DB : Level → Entry

-- a line of the list
pub record Row : Type 0 where
  pub code : ℕ
  pub entry : Entry

infix 70 ◌is◌
abbrev pub ◌is◌ : ℕ → Entry → Row
◌is◌ n e = record { code = n; entry = e }

-- ---- the pages: for each code its transaction and its level, in the order of the print; the dashes of 890 are NA

abbrev pub page1 : List Row
page1 =
    010 is NA Status ∷ 011 is NA Status ∷ 012 is NA Status ∷ 015 is NA Status ∷ 020 is NA Status
    ∷ 021 is NA Status ∷ 022 is NA Status ∷ 024 is NA Status ∷ 025 is NA Status
    ∷ []

abbrev pub page2 : List Row
page2 =
    030 is NA Status ∷ 037 is NA Status ∷ 039 is NA Status ∷ 040 is NA Status ∷ 041 is NA Status
    ∷ 042 is NA Status ∷ 043 is NA Status ∷ 044 is NA Status ∷ 045 is NA Status ∷ 050 is NA Status
    ∷ 051 is NA Status ∷ 054 is NA Status ∷ 055 is NA Status ∷ 056 is NA Status ∷ 057 is NA Status
    ∷ 059 is NA Status ∷ 060 is NA Status ∷ 061 is NA Status ∷ 062 is NA Status ∷ 063 is NA Status
    ∷ 065 is NA Status ∷ 066 is NA Status ∷ 067 is NA Status ∷ 068 is NA Status ∷ 070 is NA Status
    ∷ 072 is NA Status
    ∷ []

abbrev pub page3 : List Row
page3 =
    073 is NA Status ∷ 074 is NA Status ∷ 075 is NA Status ∷ 076 is NA Status ∷ 077 is NA Status
    ∷ 078 is NA Status ∷ 079 is NA Status ∷ 080 is NA Status ∷ 081 is NA Status ∷ 082 is NA Status
    ∷ 083 is NA Status ∷ 084 is NA Status ∷ 085 is NA Status ∷ 086 is NA Status
    -- Summary and Detail Credits
    ∷ 100 is CR Summary ∷ 101 is CR Summary ∷ 105 is CR Summary ∷ 106 is CR Summary ∷ 107 is CR Summary
    ∷ 108 is CR Detail ∷ 109 is CR Summary
    ∷ []

abbrev pub page4 : List Row
page4 =
    -- Lockbox – Related Type Codes
    110 is CR Summary ∷ 115 is CR Detail ∷ 116 is CR Detail ∷ 118 is CR Detail ∷ 120 is CR Summary
    ∷ 121 is CR Detail ∷ 122 is CR Detail ∷ 123 is CR Detail
    -- Concentration – Related Type Codes
    ∷ 130 is CR Summary ∷ 131 is CR Summary ∷ 135 is CR Detail ∷ 136 is CR Detail ∷ 140 is CR Summary
    ∷ 142 is CR Detail ∷ 143 is CR Detail ∷ 145 is CR Detail ∷ 146 is CR Summary ∷ 147 is CR Detail
    ∷ []

abbrev pub page5 : List Row
page5 =
    -- Preauthorized and ACH – Related Type Codes
    150 is CR Summary ∷ 155 is CR Detail ∷ 156 is CR Detail ∷ 160 is CR Summary ∷ 162 is CR Summary
    ∷ 163 is CR Summary ∷ 164 is CR Detail ∷ 165 is CR Detail ∷ 166 is CR Detail ∷ 167 is CR Summary
    ∷ 168 is CR Detail ∷ 169 is CR Detail
    -- Other Deposits – Related Type Codes
    ∷ 170 is CR Summary ∷ 171 is CR Detail ∷ 172 is CR Detail ∷ 173 is CR Detail ∷ 174 is CR Detail
    ∷ 175 is CR Detail ∷ 176 is CR Detail ∷ 178 is CR Summary ∷ 180 is CR Summary
    ∷ []

abbrev pub page6 : List Row
page6 =
    182 is CR Summary ∷ 184 is CR Detail ∷ 185 is CR Summary ∷ 186 is CR Summary ∷ 187 is CR Detail
    ∷ 188 is CR Summary ∷ 189 is CR Detail
    -- Money Transfer – Related Type Codes
    ∷ 190 is CR Summary ∷ 191 is CR Detail ∷ 195 is CR Detail ∷ 196 is CR Detail ∷ 198 is CR Detail
    ∷ 200 is CR Summary ∷ 201 is CR Detail ∷ 202 is CR Detail ∷ 205 is CR Summary ∷ 206 is CR Detail
    ∷ 207 is CR Summary ∷ 208 is CR Detail ∷ 210 is CR Summary ∷ 212 is CR Detail ∷ 213 is CR Detail
    ∷ []

abbrev pub page7 : List Row
page7 =
    214 is CR Detail ∷ 215 is CR Summary ∷ 216 is CR Detail ∷ 218 is CR Detail ∷ 221 is CR Detail
    ∷ 222 is CR Detail ∷ 224 is CR Detail ∷ 226 is CR Detail ∷ 227 is CR Detail ∷ 229 is CR Detail
    -- Security – Related Type Codes
    ∷ 230 is CR Summary ∷ 231 is CR Summary ∷ 232 is CR Detail ∷ 233 is CR Detail ∷ 234 is CR Detail
    ∷ 235 is CR Detail ∷ 236 is CR Detail ∷ 237 is CR Detail ∷ 238 is CR Detail ∷ 239 is CR Summary
    ∷ 240 is CR Detail ∷ 241 is CR Detail
    ∷ []

abbrev pub page8 : List Row
page8 =
    242 is CR Detail ∷ 243 is CR Detail ∷ 244 is CR Detail ∷ 245 is CR Summary ∷ 246 is CR Detail
    ∷ 247 is CR Detail ∷ 248 is CR Detail ∷ 249 is CR Detail ∷ 250 is CR Summary ∷ 251 is CR Summary
    ∷ 252 is CR Detail ∷ 254 is CR Detail ∷ 255 is CR Detail ∷ 256 is CR Summary ∷ 257 is CR Detail
    ∷ 258 is CR Detail ∷ 260 is CR Summary ∷ 261 is CR Detail ∷ 263 is CR Detail ∷ 266 is CR Detail
    ∷ 268 is CR Detail
    ∷ []

abbrev pub page9 : List Row
page9 =
    -- ZBA and Disbursing – Related Type Codes
    270 is CR Summary ∷ 271 is CR Summary ∷ 274 is CR Detail ∷ 275 is CR Detail ∷ 276 is CR Detail
    ∷ 277 is CR Detail ∷ 278 is CR Detail ∷ 280 is CR Summary ∷ 281 is CR Detail ∷ 285 is CR Summary
    ∷ 286 is CR Detail
    -- Other (Expansion) Type Codes
    ∷ 294 is CR Summary ∷ 295 is CR Detail ∷ 301 is CR Detail ∷ 302 is CR Summary ∷ 303 is CR Summary
    ∷ 304 is CR Summary ∷ 305 is CR Summary ∷ 306 is CR Detail ∷ 307 is CR Summary ∷ 308 is CR Detail
    ∷ []

abbrev pub page10 : List Row
page10 =
    309 is CR Summary ∷ 310 is CR Summary ∷ 315 is CR Summary ∷ 316 is CR Summary ∷ 318 is CR Summary
    ∷ 319 is CR Summary ∷ 320 is CR Summary ∷ 321 is CR Summary ∷ 324 is CR Summary ∷ 325 is CR Summary
    ∷ 326 is CR Summary ∷ 327 is CR Summary ∷ 328 is CR Summary ∷ 329 is CR Summary ∷ 330 is CR Summary
    ∷ 331 is CR Detail ∷ 332 is CR Summary ∷ 336 is CR Summary ∷ 338 is CR Summary ∷ 340 is CR Summary
    ∷ 341 is CR Summary ∷ 342 is CR Detail ∷ 343 is CR Summary ∷ 344 is CR Detail ∷ 345 is CR Detail
    ∷ 346 is CR Detail
    ∷ []

abbrev pub page11 : List Row
page11 =
    347 is CR Detail ∷ 348 is CR Detail ∷ 349 is CR Detail ∷ 350 is CR Summary ∷ 351 is CR Detail
    ∷ 352 is CR Summary ∷ 353 is CR Detail ∷ 354 is CR Detail ∷ 355 is CR Summary ∷ 356 is CR Summary
    ∷ 357 is CR Detail ∷ 358 is CR Detail ∷ 359 is CR Detail ∷ 360 is CR Summary ∷ 361 is CR Summary
    -- Correspondent Bank and Federal Reserve – Related Type Codes
    ∷ 362 is CR Detail ∷ 363 is CR Detail ∷ 364 is CR Detail ∷ 366 is CR Detail ∷ 367 is CR Detail
    ∷ 368 is CR Detail ∷ 369 is CR Detail
    ∷ []

abbrev pub page12 : List Row
page12 =
    370 is CR Summary ∷ 372 is CR Detail ∷ 373 is CR Detail ∷ 374 is CR Detail ∷ 376 is CR Detail
    ∷ 377 is CR Detail ∷ 378 is CR Detail ∷ 379 is CR Detail ∷ 381 is CR Detail ∷ 382 is CR Detail
    ∷ 383 is CR Detail ∷ 384 is CR Detail ∷ 385 is CR Summary ∷ 386 is CR Detail ∷ 387 is CR Detail
    ∷ 388 is CR Detail ∷ 389 is CR Summary
    -- Miscellaneous Type Codes
    ∷ 390 is CR Summary ∷ 391 is CR Detail ∷ 392 is CR Detail ∷ 393 is CR Detail ∷ 394 is CR Detail
    ∷ []

abbrev pub page13 : List Row
page13 =
    395 is CR Detail ∷ 397 is CR Detail ∷ 398 is CR Detail ∷ 399 is CR Detail
    -- Summary and Detail Debits
    ∷ 400 is DB Summary ∷ 401 is DB Summary ∷ 403 is DB Summary ∷ 405 is DB Summary ∷ 406 is DB Summary
    ∷ 408 is DB Detail ∷ 409 is DB Detail ∷ 410 is DB Summary ∷ 412 is DB Summary
    ∷ []

abbrev pub page14 : List Row
page14 =
    -- Lockbox Related – Type Codes
    415 is DB Detail ∷ 416 is DB Summary ∷ 420 is DB Summary ∷ 421 is DB Detail ∷ 422 is DB Detail
    ∷ 423 is DB Detail
    -- Payable-Through Draft – Related Type Codes
    ∷ 430 is DB Summary ∷ 435 is DB Detail
    -- ACH – Related Type Codes
    ∷ 445 is DB Detail ∷ 446 is DB Summary ∷ 447 is DB Detail ∷ 450 is DB Summary ∷ 451 is DB Detail
    ∷ 452 is DB Detail ∷ 455 is DB Detail ∷ 462 is DB Detail ∷ 463 is DB Summary
    ∷ []

abbrev pub page15 : List Row
page15 =
    464 is DB Detail ∷ 465 is DB Summary ∷ 466 is DB Detail ∷ 467 is DB Summary ∷ 468 is DB Detail
    ∷ 469 is DB Detail
    -- Checks Paid – Related Type Codes
    ∷ 470 is DB Summary ∷ 471 is DB Summary ∷ 472 is DB Detail ∷ 474 is DB Detail ∷ 475 is DB Detail
    ∷ 476 is DB Detail ∷ 477 is DB Detail ∷ 478 is DB Summary ∷ 479 is DB Detail ∷ 480 is DB Summary
    ∷ 481 is DB Detail ∷ 482 is DB Summary ∷ 484 is DB Detail ∷ 485 is DB Detail ∷ 486 is DB Summary
    ∷ []

abbrev pub page16 : List Row
page16 =
    487 is DB Detail ∷ 489 is DB Detail
    -- Money Transfer – Related Type Codes
    ∷ 490 is DB Summary ∷ 491 is DB Detail ∷ 493 is DB Detail ∷ 495 is DB Detail ∷ 496 is DB Detail
    ∷ 498 is DB Detail ∷ 500 is DB Summary ∷ 501 is DB Detail ∷ 502 is DB Detail ∷ 505 is DB Summary
    ∷ 506 is DB Detail ∷ 507 is DB Summary ∷ 508 is DB Detail ∷ 510 is DB Summary ∷ 512 is DB Detail
    ∷ 513 is DB Detail ∷ 514 is DB Detail ∷ 515 is DB Summary ∷ 516 is DB Detail ∷ 518 is DB Detail
    ∷ []

abbrev pub page17 : List Row
page17 =
    522 is DB Detail ∷ 524 is DB Detail ∷ 526 is DB Detail ∷ 527 is DB Detail ∷ 529 is DB Detail
    -- Security – Related Type Codes
    ∷ 530 is DB Summary ∷ 531 is DB Detail ∷ 532 is DB Summary ∷ 533 is DB Detail ∷ 534 is DB Summary
    ∷ 535 is DB Detail ∷ 536 is DB Summary ∷ 537 is DB Summary ∷ 538 is DB Detail ∷ 539 is DB Summary
    ∷ 540 is DB Detail ∷ 541 is DB Detail ∷ 542 is DB Detail ∷ 543 is DB Detail ∷ 544 is DB Detail
    ∷ 546 is DB Detail ∷ 547 is DB Detail
    ∷ []

abbrev pub page18 : List Row
page18 =
    548 is DB Detail ∷ 549 is DB Detail
    -- Deposited Items Returned – Related Type Codes
    ∷ 550 is DB Summary ∷ 551 is DB Summary ∷ 552 is DB Detail ∷ 554 is DB Detail ∷ 555 is DB Detail
    ∷ 556 is DB Summary ∷ 557 is DB Detail ∷ 558 is DB Detail ∷ 560 is DB Summary ∷ 561 is DB Detail
    ∷ 563 is DB Detail ∷ 564 is DB Detail ∷ 566 is DB Detail ∷ 567 is DB Detail ∷ 568 is DB Detail
    ∷ []

abbrev pub page19 : List Row
page19 =
    -- ZBA and Disbursing – Related Type Codes
    570 is DB Summary ∷ 574 is DB Detail ∷ 575 is DB Detail ∷ 577 is DB Detail ∷ 578 is DB Detail
    ∷ 580 is DB Summary ∷ 581 is DB Detail ∷ 583 is DB Summary ∷ 584 is DB Summary ∷ 585 is DB Summary
    ∷ 586 is DB Summary ∷ 587 is DB Summary ∷ 588 is DB Summary
    -- Other (Expansion) Type Codes
    ∷ 590 is DB Summary ∷ 594 is DB Summary ∷ 595 is DB Detail ∷ 596 is DB Summary ∷ 597 is DB Detail
    ∷ 601 is DB Summary ∷ 602 is DB Summary ∷ 610 is DB Summary
    ∷ []

abbrev pub page20 : List Row
page20 =
    611 is DB Summary ∷ 612 is DB Summary ∷ 613 is DB Summary ∷ 614 is DB Summary ∷ 615 is DB Summary
    ∷ 616 is DB Detail ∷ 617 is DB Summary ∷ 618 is DB Summary ∷ 621 is DB Summary ∷ 622 is DB Detail
    ∷ 623 is DB Summary ∷ 625 is DB Summary ∷ 626 is DB Summary ∷ 627 is DB Detail ∷ 628 is DB Summary
    ∷ 629 is DB Detail ∷ 630 is DB Summary ∷ 631 is DB Detail ∷ 632 is DB Summary ∷ 633 is DB Detail
    ∷ 634 is DB Detail ∷ 640 is DB Summary ∷ 641 is DB Detail ∷ 644 is DB Detail ∷ 646 is DB Summary
    ∷ []

abbrev pub page21 : List Row
page21 =
    650 is DB Summary ∷ 651 is DB Detail ∷ 654 is DB Detail ∷ 655 is DB Summary ∷ 656 is DB Detail
    ∷ 657 is DB Detail ∷ 658 is DB Detail ∷ 659 is DB Detail
    -- Correspondent Bank and Federal Reserve – Related Type Codes
    ∷ 661 is DB Detail ∷ 662 is DB Detail ∷ 663 is DB Detail ∷ 664 is DB Detail ∷ 665 is DB Summary
    ∷ 666 is DB Detail ∷ 667 is DB Detail ∷ 668 is DB Detail ∷ 669 is DB Detail ∷ 670 is DB Summary
    ∷ 672 is DB Detail ∷ 673 is DB Detail ∷ 674 is DB Detail ∷ 676 is DB Detail
    ∷ []

abbrev pub page22 : List Row
page22 =
    677 is DB Detail ∷ 678 is DB Detail ∷ 679 is DB Detail ∷ 681 is DB Detail ∷ 682 is DB Detail
    ∷ 683 is DB Detail ∷ 684 is DB Detail ∷ 685 is DB Summary ∷ 686 is DB Detail ∷ 687 is DB Detail
    ∷ 688 is DB Detail ∷ 689 is DB Summary ∷ 690 is DB Summary ∷ 691 is DB Detail ∷ 692 is DB Detail
    ∷ 693 is DB Detail ∷ 694 is DB Detail ∷ 695 is DB Detail ∷ 696 is DB Detail ∷ 697 is DB Detail
    ∷ 698 is DB Detail ∷ 699 is DB Detail
    ∷ []

abbrev pub page23 : List Row
page23 =
    -- Loan Transactions- Related Type Codes
    701 is NA Status ∷ 703 is NA Status ∷ 705 is NA Status ∷ 707 is NA Status ∷ 709 is NA Status
    ∷ 720 is CR Summary ∷ 721 is CR Detail ∷ 722 is CR Detail ∷ 723 is CR Detail ∷ 724 is CR Detail
    ∷ 725 is CR Detail ∷ 726 is CR Detail ∷ 727 is CR Detail ∷ 728 is CR Detail ∷ 760 is DB Summary
    -- Non-Monetary Information
    ∷ 890 is NA Detail
    ∷ []

-- ---- the table

abbrev pub uniform_list : List Row
uniform_list =
    page1 ++ page2 ++ page3 ++ page4 ++ page5 ++ page6 ++ page7 ++ page8 ++ page9 ++ page10 ++ page11 ++ page12
    ++ page13 ++ page14 ++ page15 ++ page16 ++ page17 ++ page18 ++ page19 ++ page20 ++ page21 ++ page22 ++ page23

-- what these lines say of a code
unfoldable pub entry_in : List Row → ℕ → Entry
entry_in [] n = unlisted
entry_in (r ∷ rs) n = cond (eqb r.code n) r.entry (entry_in rs n)

-- the table over 000 to 999: what the list says of a code; no other number is listed (`over-unlisted`)
unfoldable pub entry_of : ℕ → Entry
entry_of n = entry_in uniform_list n
