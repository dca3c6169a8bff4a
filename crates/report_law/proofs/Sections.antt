-- The lines of environments are passed over.
use Rattle.std.proofs.Common.{arith, refl, ◌≡◌, ◌≤◌, ◌+◌, ℕ, zero, suc, List, [], ◌∷◌, ◌++◌, Bool, true, false, Option, None, Some, Result}
use Rattle.std.specs.Prelude.{◌||◌, codes, length}
use Rattle.std.specs.List.{AllByRecursion, flat_map}
use Rattle.std.specs.Option.{option_map_or}
use Rattle.std.proofs.lemmas.Bool.{or_left, or_right}
use Rattle.bind_book.specs.declared.binding.Binding.{Binding}
use Rattle.boot_image.specs.ImageValue.{name_text}
use Rattle.line_text.specs.declared.failure.LineFault.{LineFault}
use Rattle.line_text.specs.Text.{dec_text, hex_text}
use Rattle.line_text.specs.WrittenLine.{bytes_text, flag_text, line, quotation, spaced}
use Rattle.machine_text.specs.Fingerprint.{fingerprint}
use Rattle.machine_text.specs.Registers.{register_words}
use Rattle.machine_text.specs.Series.{for_each}
use Rattle.mips_exec.specs.declared.exception.ExcCode.{ExcCode}
use Rattle.mips_exec.specs.declared.exception.ExcCode.TheVariants as exc
use Rattle.mips_exec.specs.declared.registers.Cpu.{Cpu}
use Rattle.mips_exec.specs.Cpu.{reg}
use Rattle.world_model.specs.declared.life.Life.{Life}
use Rattle.world_model.specs.declared.life.Life.TheVariants.{Live, Dead}
use Rattle.world_model.specs.declared.life.Cause.TheVariants as cause
use Rattle.world_model.specs.Page.{KeptPage}
use Rattle.world_model.specs.Solo.{Solo, Seen}
use Rattle.world_model.specs.View.{owned_bytes}
use Rattle.world_model.specs.World.{World}
use Rattle.run_report.specs.Report.{bind_line, bind_lines, cpu_line, env_line, env_text, exception_text, excess_line, if_live, keep_line, keep_lines, life_words, living_lines, mode_text, numbers_line, out_line, page_line, page_lines, regs_line, rising_bindings, sent_line, sent_lines, shown_cpu}
use Rattle.ledger_text.specs.declared.fault.LedgerWhy.{LedgerWhy}
use Rattle.ledger_text.specs.declared.kind.LineKind.{LineKind}
use Rattle.ledger_text.specs.declared.kind.LineKind.TheVariants as kind
use Rattle.ledger_text.specs.LedgerText.{LedgerValue}
use Rattle.ledger_text.specs.LineKinds.{before_bind, before_keep, before_page, ends_env, is_kind_cpu, is_kind_end, is_kind_env, is_kind_out, is_kind_regs}
use Rattle.report_law.proofs.Bytes.{AtLeast, both, bytes_high, dec_high, fingerprint_high, flag_high, hex_high, lower, quotation_plain}
use Rattle.report_law.proofs.Cuts.{words_plain}
use Rattle.report_law.proofs.Reading.{Known, Leads, Passes, has_one_more, lead_both, lead_line, one_more, pass_both, pass_each, pass_line, pass_none, pass_wider, weaker}

abbrev Plain : List ℕ → Type 0
Plain bytes = AtLeast 32 bytes

plain_high : (bytes : List ℕ) → AtLeast 48 bytes → Plain bytes
plain_high bytes high = lower 32 48 bytes (omega arith) high

dec_plain : (n : ℕ) → Plain (dec_text n)
dec_plain n = plain_high (dec_text n) (dec_high n)

hex_plain : (k n : ℕ) → Plain (hex_text k n)
hex_plain k n = plain_high (hex_text k n) (hex_high k n)

print_plain : (bytes : List ℕ) → Plain (fingerprint bytes)
print_plain bytes = plain_high (fingerprint bytes) (fingerprint_high bytes)

exception_plain : (code : ExcCode) → Plain (exception_text code)
exception_plain exc.Int = refl
exception_plain exc.Mod = refl
exception_plain exc.Tlbl = refl
exception_plain exc.Tlbs = refl
exception_plain exc.Adel = refl
exception_plain exc.Ades = refl
exception_plain exc.Ibe = refl
exception_plain exc.Dbe = refl
exception_plain exc.Sys = refl
exception_plain exc.Bp = refl
exception_plain exc.Ri = refl
exception_plain exc.Cpu = refl
exception_plain exc.Ov = refl

abbrev ArePlain : List (List ℕ) → Type 0
ArePlain words = AllByRecursion Plain words

life_plain : (life : Life) → ArePlain (life_words life)
life_plain Live = (refl, tt)
life_plain (Dead (cause.Exit code)) = (refl, (dec_plain code, tt))
life_plain (Dead (cause.Trapped code)) = (refl, (exception_plain code, tt))
life_plain (Dead cause.Excess) = (refl, (refl, tt))

mode_plain : (writable : Bool) → Plain (mode_text writable)
mode_plain true = refl
mode_plain false = refl

each_plain : (f : ℕ → List ℕ) → ((i : ℕ) → Plain (f i)) → (n : ℕ) → ArePlain (for_each (λ i. f i ∷ []) n)
each_plain f each zero = tt
each_plain f each (suc n) = more (for_each (λ i. f i ∷ []) n) (each_plain f each n)
  where
    more : (words : List (List ℕ)) → ArePlain words → ArePlain (words ++ f n ∷ [])
    more [] are = (each n, tt)
    more (word ∷ words) (here, are) = (here, more words are)

body_plain : (word : List ℕ) (words : List (List ℕ)) → Plain word → ArePlain words → Plain (word ++ flat_map spaced words)
body_plain word words first rest = both 32 word (flat_map spaced words) first (words_plain words rest)

-- which kinds of lines are of more kinds
keep_page : (last : LineKind) → before_keep last ≡ true → before_page last ≡ true
keep_page kind.Page is = refl
keep_page last is = is

page_bind : (last : LineKind) → before_page last ≡ true → before_bind last ≡ true
page_bind kind.Bind is = refl
page_bind last is = is

bind_ends : (last : LineKind) → before_bind last ≡ true → ends_env last ≡ true
bind_ends kind.Bind is = refl
bind_ends kind.Page is = refl
bind_ends kind.Keep is = refl
bind_ends kind.Excess is = refl
bind_ends last is = cc

out_ends : (last : LineKind) → is_kind_out last ≡ true → ends_env last ≡ true
out_ends kind.Out is = refl
out_ends last is = cc

abbrev pub starts_env : LineKind → Bool
starts_env last = is_kind_end last || ends_env last

module _ (end : ℕ) (from : Result LedgerValue (LineFault LedgerWhy)) (k : Known) where
  abbrev Passing : (LineKind → Bool) → (LineKind → Bool) → List ℕ → Type 0
  Passing P Q text = Passes end from k P Q text

  pass_for : (P : LineKind → Bool) (f : ℕ → List ℕ) → ((i : ℕ) → Passing P P (f i)) → (n : ℕ) → Passing P P (for_each f n)
  pass_for P f each zero = pass_none end from k P
  pass_for P f each (suc n) = pass_both end from k P P P (for_each f n) (f n) (pass_for P f each n) (each n)

  out_passes : (e : ℕ) (s : Solo) → Passing is_kind_env is_kind_out (out_line e s)
  unfolding out_line
  out_passes e s =
      let words = dec_text e ∷ dec_text (length s.console) ∷ quotation s.console ∷ [] in
      pass_line end from k is_kind_env is_kind_out kind.Out (codes "out") words refl (λ last is. is) (λ text. refl) (λ number ledger. refl) refl refl
      (body_plain (codes "out") words refl (dec_plain e, (dec_plain (length s.console), (quotation_plain s.console, tt))))

  cpu_passes : (e : ℕ) (cpu : Cpu) → Passing is_kind_out is_kind_cpu (cpu_line e cpu)
  unfolding cpu_line
  cpu_passes e cpu =
      let words = dec_text e ∷ hex_text 8 cpu.pc ∷ hex_text 8 cpu.next ∷ flag_text cpu.slot ∷ hex_text 8 cpu.hi ∷ hex_text 8 cpu.lo ∷ [] in
      pass_line end from k is_kind_out is_kind_cpu kind.Cpu (codes "cpu") words refl (λ last is. is) (λ text. refl) (λ number ledger. refl) refl refl
      (body_plain (codes "cpu") words refl (dec_plain e, (hex_plain 8 cpu.pc, (hex_plain 8 cpu.next, (plain_high (flag_text cpu.slot) (flag_high cpu.slot), (hex_plain 8 cpu.hi, (hex_plain 8 cpu.lo, tt)))))))

  regs_by : (e : ℕ) (f : ℕ → List ℕ) (n : ℕ) → ((i : ℕ) → Plain (f i)) → Passing is_kind_cpu is_kind_regs (line (codes "regs" ∷ dec_text e ∷ for_each (λ i. f i ∷ []) n))
  regs_by e f n each =
      let words = dec_text e ∷ for_each (λ i. f i ∷ []) n in
      pass_line end from k is_kind_cpu is_kind_regs kind.Regs (codes "regs") words refl (λ last is. is) (λ text. refl) (λ number ledger. refl) refl refl
      (body_plain (codes "regs") words refl (dec_plain e, each_plain f each n))

  regs_passes : (e : ℕ) (cpu : Cpu) → Passing is_kind_cpu is_kind_regs (regs_line e cpu)
  unfolding regs_line register_words
  regs_passes e cpu = regs_by e (λ i. hex_text 8 (reg cpu (i + 1))) 31 (λ i. hex_plain 8 (reg cpu (i + 1)))

  excess_passes : (e excess : ℕ) → Passing is_kind_regs before_keep (excess_line e excess)
  unfolding numbers_line
  excess_passes e excess =
      let words = dec_text e ∷ dec_text excess ∷ [] in
      pass_line end from k is_kind_regs before_keep kind.Excess (codes "excess") words refl (λ last is. is) (λ text. refl) (λ number ledger. refl) refl refl
      (body_plain (codes "excess") words refl (dec_plain e, (dec_plain excess, tt)))

  keep_passes : (e : ℕ) (p : KeptPage) → Passing before_keep before_keep (keep_line e p)
  unfolding keep_line
  keep_passes e p =
      let words = dec_text e ∷ hex_text 5 p.vpn ∷ fingerprint p.bytes ∷ [] in
      pass_line end from k before_keep before_keep kind.Keep (codes "keep") words refl (λ last is. is) (λ text. refl) (λ number ledger. refl) refl refl
      (body_plain (codes "keep") words refl (dec_plain e, (hex_plain 5 p.vpn, (print_plain p.bytes, tt))))

  page_passes : (e page : ℕ) (bytes : List ℕ) → Passing before_page before_page (page_line e page bytes)
  unfolding page_line
  page_passes e page bytes =
      let words = dec_text e ∷ dec_text page ∷ fingerprint bytes ∷ [] in
      pass_line end from k before_page before_page kind.Page (codes "page") words refl (λ last is. is) (λ text. refl) (λ number ledger. refl) refl refl
      (body_plain (codes "page") words refl (dec_plain e, (dec_plain page, (print_plain bytes, tt))))

  bind_passes : (e : ℕ) (b : Binding) → Passing before_bind before_bind (bind_line e b)
  unfolding bind_line
  bind_passes e b =
      let words = dec_text e ∷ hex_text 5 b.vpn ∷ dec_text b.page ∷ mode_text b.writable ∷ [] in
      pass_line end from k before_bind before_bind kind.Bind (codes "bind") words refl (λ last is. is) (λ text. refl) (λ number ledger. refl) refl refl
      (body_plain (codes "bind") words refl (dec_plain e, (hex_plain 5 b.vpn, (dec_plain b.page, (mode_plain b.writable, tt)))))

  sent_passes : (e : ℕ) (packet : List ℕ) → Passing ends_env ends_env (sent_line e packet)
  unfolding sent_line
  sent_passes e packet =
      let words = dec_text e ∷ dec_text (length packet) ∷ bytes_text packet ∷ [] in
      pass_line end from k ends_env ends_env kind.Sent (codes "sent") words refl (λ last is. is) (λ text. refl) (λ number ledger. refl) refl refl
      (body_plain (codes "sent") words refl (dec_plain e, (dec_plain (length packet), (plain_high (bytes_text packet) (bytes_high packet), tt))))

  pages_pass : (e : ℕ) (seen : ℕ → Option Seen) (count : ℕ) → Passing before_page before_page (page_lines e seen count)
  pages_pass e seen count = pass_for before_page (λ page. option_map_or (page_line e page) (owned_bytes (seen page)) []) (λ page. by_bytes page (owned_bytes (seen page))) count
    where
      by_bytes : (page : ℕ) (bytes : Option (List ℕ)) → Passing before_page before_page (option_map_or (page_line e page) bytes [])
      by_bytes page None = pass_none end from k before_page
      by_bytes page (Some bytes) = page_passes e page bytes

  living_pass : (w : World) (e : ℕ) → Passing is_kind_out ends_env (living_lines w e)
  unfolding living_lines
  living_pass w e =
      let cpu = shown_cpu w e in
      let x = w.book.excess e in
      let ks = keep_lines e (w.solos e).kept in
      let ps = page_lines e (w.solos e).seen w.book.page_count in
      let bs = bind_lines e (w.solos e).binds in
      pass_both end from k is_kind_out before_bind ends_env ((((cpu_line e cpu ++ regs_line e cpu) ++ excess_line e x) ++ ks) ++ ps) bs
      (pass_both end from k is_kind_out before_page before_bind (((cpu_line e cpu ++ regs_line e cpu) ++ excess_line e x) ++ ks) ps
      (pass_both end from k is_kind_out before_keep before_page ((cpu_line e cpu ++ regs_line e cpu) ++ excess_line e x) ks
      (pass_both end from k is_kind_out is_kind_regs before_keep (cpu_line e cpu ++ regs_line e cpu) (excess_line e x)
      (pass_both end from k is_kind_out is_kind_cpu is_kind_regs (cpu_line e cpu) (regs_line e cpu) (cpu_passes e cpu) (regs_passes e cpu)) (excess_passes e x))
      (pass_wider end from k before_keep before_keep before_keep before_page ks (λ last is. is) keep_page (pass_each end from k before_keep (keep_line e) (keep_passes e) (w.solos e).kept)))
      (pass_wider end from k before_page before_page before_page before_bind ps (λ last is. is) page_bind (pages_pass e (w.solos e).seen w.book.page_count)))
      (pass_wider end from k before_bind before_bind before_bind ends_env bs (λ last is. is) bind_ends (pass_each end from k before_bind (bind_line e) (bind_passes e) (rising_bindings (w.solos e).binds)))

  live_pass : (life : Life) (text : List ℕ) → Passing is_kind_out ends_env text → Passing is_kind_out ends_env (if_live life text)
  live_pass Live text passes = passes
  live_pass (Dead cause) text passes = pass_wider end from k is_kind_out is_kind_out is_kind_out ends_env [] (λ last is. is) out_ends (pass_none end from k is_kind_out)

-- an environment's lines, of which the first counts
module _ (end : ℕ) (from : Result LedgerValue (LineFault LedgerWhy)) where
  env_leads : (k : Known) (e : ℕ) (s : Solo) → Plain (name_text s.name) → Leads end from k (one_more k) starts_env is_kind_env (env_line e s)
  unfolding env_line
  env_leads k e s named =
      let words = dec_text e ∷ name_text s.name ∷ life_words s.life in
      lead_line end from k (one_more k) starts_env is_kind_env kind.Env (codes "env") words refl (λ last is. is) (λ text. refl) (λ number ledger has. has_one_more number ledger k has) refl refl
      (body_plain (codes "env") words refl (dec_plain e, (named, life_plain s.life)))

  whole_env_leads : (k : Known) (w : World) (e : ℕ) → Plain (name_text (w.solos e).name) → Leads end from k (one_more k) starts_env ends_env (env_text w e)
  unfolding env_text
  whole_env_leads k w e named =
      let s = w.solos e in
      let l = one_more k in
      let ls = if_live s.life (living_lines w e) in
      let ss = sent_lines e s.sent in
      lead_both end from k l l starts_env ends_env ends_env ((env_line e s ++ out_line e s) ++ ls) ss
      (lead_both end from k l l starts_env is_kind_out ends_env (env_line e s ++ out_line e s) ls
      (lead_both end from k l l starts_env is_kind_env is_kind_out (env_line e s) (out_line e s) (env_leads k e s named) (out_passes end from l e s))
      (live_pass end from l s.life (living_lines w e) (living_pass end from l w e)))
      (pass_each end from l ends_env (sent_line e) (sent_passes end from l e) s.sent)

  ends_start : (last : LineKind) → ends_env last ≡ true → starts_env last ≡ true
  ends_start last is = or_right (is_kind_end last) (ends_env last) is

  end_starts : (last : LineKind) → is_kind_end last ≡ true → starts_env last ≡ true
  end_starts last is = or_left (is_kind_end last) (ends_env last) is

  -- so many environments
  abbrev counting : Known → ℕ → Known
  counting k n = record k { environments = n }

  some_envs_lead : (k : Known) (w : World) (n : ℕ) → ((e : ℕ) → Plain (name_text (w.solos e).name)) → Leads end from (counting k 0) (counting k n) starts_env starts_env (for_each (env_text w) n)
  some_envs_lead k w zero named rest at = at
  some_envs_lead k w (suc n) named rest at =
      lead_both end from (counting k 0) (counting k n) (counting k (suc n)) starts_env starts_env starts_env (for_each (env_text w) n) (env_text w n) (some_envs_lead k w n named)
      (λ left there. weaker end from ends_env starts_env (counting k (suc n)) left ends_start (whole_env_leads (counting k n) w n (named n) left there)) rest at

  -- one or more
  pub envs_lead : (k : Known) (w : World) (n : ℕ) → ((e : ℕ) → Plain (name_text (w.solos e).name)) → 1 ≤ n → Leads end from (counting k 0) (counting k n) is_kind_end ends_env (for_each (env_text w) n)
  envs_lead k w zero named some rest at = absurd (omega (arith, some))
  envs_lead k w (suc n) named some rest at =
      let before = for_each (env_text w) n in
      let text = before ++ env_text w n in
      lead_both end from (counting k 0) (counting k n) (counting k (suc n)) starts_env starts_env ends_env before (env_text w n) (some_envs_lead k w n named)
      (whole_env_leads (counting k n) w n (named n)) rest (weaker end from is_kind_end starts_env (counting k 0) (text ++ rest) end_starts at)
