-- What is known of a run once something was told.
use Rattle.std.proofs.Common.{◌≡◌, ℕ, ◌+◌, ◌<◌, ◌≤◌, ◌≢◌, Bool, true, false, List, ◌++◌, length, replicate, Option, Some, None, Ok, Err, refl, sym, ◌∙◌, ap, subst, arith, inl, inr}
use Rattle.std.specs.Prelude.{◌⊎◌, if◌then◌else◌, nat_eq}
use Rattle.std.proofs.lemmas.Bool.{lt-ltb}
use Rattle.std.proofs.lemmas.Bool.Decides.{nat_tests}
use Rattle.std.proofs.lemmas.List.{append-nil, length-append, length-replicate}
use Rattle.std.proofs.lemmas.Option.{same_Some}
use Rattle.std.specs.Io.KnownBytes.{IsAtEnd, append_known, prepend_known}
use Rattle.flat_model.specs.declared.parts.Config.{Config}
use Rattle.flat_model.specs.declared.refusals.Refused.{Refused}
use Rattle.flat_model.specs.declared.refusals.Refused.TheVariants as refused
use Rattle.flat_model.specs.OneLog.{script_log}
use Rattle.box_isolation.proofs.WholeIsolation.{isolated}
use Rattle.io_edge.specs.Counts.{Rose, next_count}
use Rattle.io_edge.specs.Taken.{Takes}
use Rattle.uvisor_run.specs.declared.commands.Command.{Command}
use Rattle.uvisor_run.specs.declared.commands.Command.TheVariants.{Check, Script}
use Rattle.uvisor_run.specs.Accept.{INPUT_LIMIT, config_of}
use Rattle.uvisor_run.specs.RefusalText.{refusal_line}
use Rattle.uvisor_run.specs.Headline.{HasConfig, IsAnswered, IsBroken, IsCommandRun, IsDone, IsReadToEnd, IsScriptRun, IsTold, IsToldInMemory, WereLeft}
use Rattle.uvisor_run.specs.Output.{Output, log_output, output_by, output_for, output_of, refused_output}
use Rattle.uvisor_run.proofs.Runs.{script_chosen, script_legal}

-- ---- what is due

-- where memory sufficed
pub told_in_memory : (due : Output) (written now : Option (List ℕ)) (before after status : ℕ) → due.status ≤ 2 → IsTold due written now before after status → IsToldInMemory due written now before after status
told_in_memory due written now before after status low told = record {
  done = λ unfailed unrefused. told.done unfailed;
  part = told.part;
  memory = λ five. absurd (omega (arith, five, low, (told.done (λ four. omega (arith, five, four))).status_due));
  faults = told.faults;
}

-- where memory was refused
pub refused_memory : (due : Output) (written : Option (List ℕ)) (count status : ℕ) → status ≡ 5 → IsToldInMemory due written written count count status
refused_memory due written count status five = record {
  done = λ unfailed unrefused. absurd (unrefused five);
  part = λ four. absurd (omega (arith, five, four));
  memory = λ _. refl;
  faults = record { rose = λ four. absurd (omega (arith, five, four)); kept = λ _. refl };
}

-- what `check` writes
pub check_told : (cfg : Config) (written now : Option (List ℕ)) (before after status : ℕ) → IsTold (output_for Check cfg) written now before after status → IsToldInMemory (output_for Check cfg) written now before after status
check_told cfg written now before after status told =
    told_in_memory (output_for Check cfg) written now before after status (omega arith) told

-- an input that is accepted
pub config_told : (command : Command) (bytes : List ℕ) (cfg : Config) (written now : Option (List ℕ)) (before after status : ℕ) → config_of bytes ≡ Ok cfg → IsToldInMemory (output_for command cfg) written now before after status → IsToldInMemory (output_of command bytes) written now before after status
unfolding output_of
config_told command bytes cfg written now before after status accepted told =
    subst (λ r. IsToldInMemory (output_by command r) written now before after status) (sym accepted) told

-- an input that is refused
pub refusal_told : (command : Command) (bytes : List ℕ) (refusal : Refused) (written now : Option (List ℕ)) (before after status : ℕ) → config_of bytes ≡ Err refusal → IsTold (refused_output refusal) written now before after status → IsToldInMemory (output_of command bytes) written now before after status
unfolding output_of
refusal_told command bytes refusal written now before after status refuses told =
    subst (λ r. IsToldInMemory (output_by command r) written now before after status) (sym refuses)
    (told_in_memory (refused_output refusal) written now before after status (omega arith) told)

-- what is told is done, or a write failed
pub told_known : (due : Output) (written now : Option (List ℕ)) (before after status : ℕ) → due.status ≤ 1 → IsTold due written now before after status → (status ≤ 1) ⊎ (status ≡ 4)
told_known due written now before after status low told = by_test (nat_eq status 4) refl
  where
    by_test : (b : Bool) → nat_eq status 4 ≡ b → (status ≤ 1) ⊎ (status ≡ 4)
    by_test true is = inr (grind (arith, nat_tests))
    by_test false is =
        let other : status ≢ 4 = grind (arith, nat_tests) in
        inl (omega (arith, low, (told.done other).status_due))

output_low : (command : Command) (cfg : Config) → (output_for command cfg).status ≤ 1
output_low Check cfg = omega arith
output_low Script cfg = omega arith

-- what is told of a configuration is done, or a write failed, or memory was refused
pub config_known : (command : Command) (cfg : Config) (written now : Option (List ℕ)) (before after status : ℕ) → IsToldInMemory (output_for command cfg) written now before after status → (status ≤ 1) ⊎ ((status ≡ 4) ⊎ (status ≡ 5))
config_known command cfg written now before after status told = by_tests (nat_eq status 4) (nat_eq status 5) refl refl
  where
    by_tests : (b c : Bool) → nat_eq status 4 ≡ b → nat_eq status 5 ≡ c → (status ≤ 1) ⊎ ((status ≡ 4) ⊎ (status ≡ 5))
    by_tests true c is five = inr (inl (grind (arith, nat_tests)))
    by_tests false true is five = inr (inr (grind (arith, nat_tests)))
    by_tests false false is five =
        let unfailed : status ≢ 4 = grind (arith, nat_tests) in
        let unrefused : status ≢ 5 = grind (arith, nat_tests) in
        inl (omega (arith, output_low command cfg, (told.done unfailed unrefused).status_due))

-- ---- a script's run

-- a script was run
pub script_run_of : (bytes : List ℕ) (left left_now written now : Option (List ℕ)) (status : ℕ) → WereLeft left bytes → IsReadToEnd left_now → HasConfig bytes → status ≡ 0 → IsDone (output_of Script bytes) written now status → IsScriptRun left left_now written now
unfolding output_of
script_run_of bytes left left_now written now status were_left to_the_end has done told =
    let cfg : Config = has.config in
    let by_config : output_of Script bytes ≡ output_for Script cfg = ap (output_by Script) has.accepted in
    let legal = script_legal cfg has.sound in
    record {
      bytes = bytes;
      config = cfg;
      log = script_log cfg;
      were_left = were_left;
      to_the_end = to_the_end;
      accepted = has.accepted;
      choices = script_chosen cfg;
      flat_run = legal.flat;
      unit_run = legal.unit;
      grants = legal.agree;
      isolation = isolated cfg (script_log cfg) has.sound legal;
      text = told.text_due ∙ ap (λ (o : Output). append_known written o.text) by_config;
    }

-- all bytes that were left were read
left_all : (bytes : List ℕ) (left now : Option (List ℕ)) → left ≡ prepend_known bytes now → IsAtEnd now → WereLeft left bytes
left_all bytes None now read at_end = tt
left_all bytes (Some all) None read at_end = absurd (some_none all read)
  where
    some_none : (all : List ℕ) → Some all ≡ None → ⊥
    some_none all same = cc
left_all bytes (Some all) (Some rest) read at_end =
    same_Some all (bytes ++ rest) read ∙ ap (λ r. bytes ++ r) at_end ∙ append-nil bytes

-- the bytes of an input of more than n bytes
record Longer (n : ℕ) (left : Option (List ℕ)) : Type 0 where
  bytes : List ℕ
  were_left : WereLeft left bytes
  long : n < length bytes

longer_bytes : (n : ℕ) (left now : Option (List ℕ)) → Takes (n + 1) left now → Longer n left
longer_bytes n None now taken = record {
  bytes = replicate (n + 1) 0;
  were_left = tt;
  long = omega (arith, length-replicate {A = ℕ} (n + 1) 0);
}
longer_bytes n (Some all) None taken = absurd (none_known taken.0 taken.2)
  where
    none_known : (front : List ℕ) → Some all ≡ prepend_known front None → ⊥
    none_known front same = cc
longer_bytes n (Some all) (Some rest) taken = record {
  bytes = all;
  were_left = refl;
  long = omega (arith, ap length (same_Some all (taken.0 ++ rest) taken.2), length-append taken.0 rest, taken.1);
}

too_long_output : (command : Command) (bytes : List ℕ) → INPUT_LIMIT < length bytes → output_of command bytes ≡ refused_output refused.TooLong
unfolding output_of config_of refusal_line
too_long_output command bytes long = rw (lt-ltb INPUT_LIMIT (length bytes) long) refl

-- an input that is too long was answered
pub too_long_answered : (command : Command) (left now written written_now : Option (List ℕ)) (before after status : ℕ) → Takes (INPUT_LIMIT + 1) left now → IsTold (refused_output refused.TooLong) written written_now before after status → status ≤ 1 → IsAnswered command left written written_now status
too_long_answered command left now written written_now before after status taken told low =
    let it = longer_bytes INPUT_LIMIT left now taken in
    record {
      bytes = it.bytes;
      were_left = it.were_left;
      done = rw (too_long_output command it.bytes it.long) (told.done (λ four. absurd (omega (arith, four, low))));
    }

-- the beginning of the refusal of an input that is too long was written
pub too_long_broken : (command : Command) (left now written written_now : Option (List ℕ)) (before after status : ℕ) → Takes (INPUT_LIMIT + 1) left now → IsTold (refused_output refused.TooLong) written written_now before after status → status ≡ 4 → IsBroken command left written written_now
too_long_broken command left now written written_now before after status taken told four =
    let it = longer_bytes INPUT_LIMIT left now taken in
    record {
      bytes = it.bytes;
      were_left = it.were_left;
      part = rw (too_long_output command it.bytes it.long) (told.part four);
    }

-- ---- a command's run, by how it ends

-- the input was read, and what is due of it was told
pub bytes_run : (command : Command) (bytes items : List ℕ) (left left_now : Option (List ℕ)) (reads reads_now : ℕ) (written now : Option (List ℕ)) (writes writes_now status : ℕ) → bytes ≡ items → left ≡ prepend_known items left_now → IsAtEnd left_now → reads_now ≡ reads → (status ≡ 0 → HasConfig bytes) → IsToldInMemory (output_of command bytes) written now writes writes_now status → (status ≤ 1) ⊎ ((status ≡ 4) ⊎ (status ≡ 5)) → IsCommandRun command left left_now reads reads_now written now writes writes_now status
bytes_run command bytes items left left_now reads reads_now written now writes writes_now status is_read read at_end same has told known =
    let were_left : WereLeft left bytes = subst (WereLeft left) (sym is_read) (left_all items left left_now read at_end) in
    record {
      known = elim known [
        | inl low ↦ inl low
        | inr more ↦ inr (inr more)
      ];
      answered = λ low. record { bytes = bytes; were_left = were_left; done = done_at low };
      accepted = λ zero. record {
        bytes = bytes;
        were_left = were_left;
        to_the_end = at_end;
        config = (has zero).config;
        accepted = (has zero).accepted;
      };
      script_run = λ zero is_script. script_run_of bytes left left_now written now status were_left at_end (has zero) zero
          (subst (λ c. IsDone (output_of c bytes) written now status) is_script (done_at (omega (arith, zero))));
      read_fault = λ three. absurd (no_three three);
      broken = λ four. record { bytes = bytes; were_left = were_left; part = told.part four };
      memory = told.memory;
      reads = record { rose = λ three. absurd (no_three three); kept = λ _. same };
      writes = told.faults;
    }
  where
    done_at : status ≤ 1 → IsDone (output_of command bytes) written now status
    done_at low = told.done (λ four. omega (arith, low, four)) (λ five. omega (arith, low, five))

    no_three : status ≡ 3 → ⊥
    no_three three = elim known [
      | inl low ↦ omega (arith, three, low)
      | inr more ↦ elim more [
        | inl four ↦ omega (arith, three, four)
        | inr five ↦ omega (arith, three, five)
      ]
    ]

-- the input was too long, and its refusal was told
pub too_long_run : (command : Command) (left left_now : Option (List ℕ)) (reads reads_now : ℕ) (written now : Option (List ℕ)) (writes writes_now status : ℕ) → Takes (INPUT_LIMIT + 1) left left_now → reads_now ≡ reads → IsTold (refused_output refused.TooLong) written now writes writes_now status → IsCommandRun command left left_now reads reads_now written now writes writes_now status
too_long_run command left left_now reads reads_now written now writes writes_now status taken same told = record {
  known = elim known [
    | inl low ↦ inl low
    | inr four ↦ inr (inr (inl four))
  ];
  answered = too_long_answered command left left_now written now writes writes_now status taken told;
  accepted = λ zero. absurd (omega (arith, zero, is_one (λ four. omega (arith, zero, four))));
  script_run = λ zero _. absurd (omega (arith, zero, is_one (λ four. omega (arith, zero, four))));
  read_fault = λ three. absurd (no_three three);
  broken = too_long_broken command left left_now written now writes writes_now status taken told;
  memory = λ five. absurd (omega (arith, five, is_one (λ four. omega (arith, five, four))));
  reads = record { rose = λ three. absurd (no_three three); kept = λ _. same };
  writes = told.faults;
}
  where
    known : (status ≤ 1) ⊎ (status ≡ 4)
    known = told_known (refused_output refused.TooLong) written now writes writes_now status (omega arith) told

    is_one : status ≢ 4 → status ≡ 1
    is_one other = (told.done other).status_due

    no_three : status ≡ 3 → ⊥
    no_three three = omega (arith, three, is_one (λ four. omega (arith, three, four)))

-- a read failed
pub read_fault_run : (command : Command) (left left_now : Option (List ℕ)) (reads reads_now : ℕ) (written : Option (List ℕ)) (writes status : ℕ) → status ≡ 3 → reads_now ≡ next_count reads → IsCommandRun command left left_now reads reads_now written written writes writes status
read_fault_run command left left_now reads reads_now written writes status three rose = record {
  known = inr (inl three);
  answered = λ low. absurd (omega (arith, three, low));
  accepted = λ zero. absurd (omega (arith, three, zero));
  script_run = λ zero _. absurd (omega (arith, three, zero));
  read_fault = λ _. refl;
  broken = λ four. absurd (omega (arith, three, four));
  memory = λ _. refl;
  reads = record { rose = λ _. rose; kept = λ other. absurd (other three) };
  writes = record { rose = λ four. absurd (omega (arith, three, four)); kept = λ _. refl };
}

-- memory was refused while the input was read
pub memory_run : (command : Command) (left left_now : Option (List ℕ)) (reads reads_now : ℕ) (written : Option (List ℕ)) (writes status : ℕ) → status ≡ 5 → reads_now ≡ reads → IsCommandRun command left left_now reads reads_now written written writes writes status
memory_run command left left_now reads reads_now written writes status five same = record {
  known = inr (inr (inr five));
  answered = λ low. absurd (omega (arith, five, low));
  accepted = λ zero. absurd (omega (arith, five, zero));
  script_run = λ zero _. absurd (omega (arith, five, zero));
  read_fault = λ _. refl;
  broken = λ four. absurd (omega (arith, five, four));
  memory = λ _. refl;
  reads = record { rose = λ three. absurd (omega (arith, five, three)); kept = λ _. same };
  writes = record { rose = λ four. absurd (omega (arith, five, four)); kept = λ _. refl };
}

-- where neither count rose and memory sufficed, the command was answered
pub run_complete : (command : Command) (left left_now : Option (List ℕ)) (reads reads_now : ℕ) (written now : Option (List ℕ)) (writes writes_now status : ℕ) → IsCommandRun command left left_now reads reads_now written now writes writes_now status → (Rose reads reads_now → ⊥) → (Rose writes writes_now → ⊥) → status ≢ 5 → IsAnswered command left written now status
run_complete command left left_now reads reads_now written now writes writes_now status run no_read no_write memory = elim run.known [
  | inl low ↦ run.answered low
  | inr more ↦ elim more [
    | inl three ↦ absurd (no_read (omega (arith, run.reads.rose three)))
    | inr rest ↦ elim rest [
      | inl four ↦ absurd (no_write (omega (arith, run.writes.rose four)))
      | inr five ↦ absurd (memory five)
    ]
  ]
]
