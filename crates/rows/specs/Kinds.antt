-- The terms of the six kinds of record: key, ranges, what the heading must list, and room.
use Rattle.std.specs.Prelude.{ℕ, Bool, true, ◌&&◌, ℤ, pos, negsuc, ◌==◌, int_le, nat_le}
use Rattle.dayfile.specs.Calendar.{within}
use Rattle.dayfile.specs.Classes.{class_number}
use Rattle.dayfile.specs.declared.record.Failure.{Failure}
use Rattle.dayfile.specs.declared.record.Fine.{Fine}
use Rattle.dayfile.specs.declared.record.Interconnection.{Interconnection}
use Rattle.dayfile.specs.declared.record.Position.{Position}
use Rattle.dayfile.specs.declared.record.Price.{Price}
use Rattle.dayfile.specs.declared.record.Reserve.{Reserve}
use Rattle.rows.specs.Tables.{Terms}

-- how many records of each kind a book holds at most
abbrev pub price_room : ℕ
price_room = 400

abbrev pub position_room : ℕ
position_room = 1000

abbrev pub interconnection_room : ℕ
interconnection_room = 200

abbrev pub reserve_room : ℕ
reserve_room = 400

abbrev pub failure_room : ℕ
failure_room = 320

abbrev pub fine_room : ℕ
fine_room = 50

-- a quantity of energy, in kWh
abbrev pub energy_in_range : ℕ → Bool
energy_in_range kwh = nat_le kwh 2000000

-- a price that may be negative, in centavos per MWh: from −10,000,000 to 10,000,000
abbrev pub price_in_range : ℤ → Bool
price_in_range price = int_le (negsuc 9999999) price && int_le price (pos 10000000)

-- a price of reserve, which is not negative, in centavos per MWh
abbrev pub reserve_price_in_range : ℕ → Bool
reserve_price_in_range price = nat_le price 10000000

-- a fine, in centavos: from 1 to 10^12
abbrev pub fine_in_range : ℕ → Bool
fine_in_range centavos = within 1 1000000000000 centavos

-- a unit that has reserve: from 1 to 64
abbrev pub unit_in_range : ℕ → Bool
unit_in_range unit = within 1 64 unit

-- a kind of reserve: from 1 to 5
abbrev pub kind_in_range : ℕ → Bool
kind_in_range kind = within 1 5 kind

abbrev pub price_terms : Terms Price
price_terms = record {
  alike = λ p q. (p.node == q.node) && (p.hour == q.hour);
  in_range = λ p. nat_le 1 p.node && (nat_le 1 p.hour && (price_in_range p.day_ahead && price_in_range p.real_time));
  listed = λ heading p. nat_le p.node heading.nodes && nat_le p.hour heading.hours;
  room = price_room;
}

abbrev pub position_terms : Terms Position
position_terms = record {
  alike = λ p q. (p.account == q.account) && (p.node == q.node && (p.hour == q.hour
      && class_number p.class == class_number q.class));
  in_range = λ p. nat_le 1 p.account && (nat_le 1 p.node && (nat_le 1 p.hour
      && (energy_in_range p.day_ahead && energy_in_range p.real_time)));
  listed = λ heading p. nat_le p.account heading.accounts && (nat_le p.node heading.nodes && nat_le p.hour heading.hours);
  room = position_room;
}

abbrev pub interconnection_terms : Terms Interconnection
interconnection_terms = record {
  alike = λ p q. (p.interconnection == q.interconnection) && (p.hour == q.hour);
  in_range = λ p. nat_le 1 p.interconnection && (within 1 4 p.system && (nat_le 1 p.node && (nat_le 1 p.hour
      && (energy_in_range p.day_ahead_export && (energy_in_range p.day_ahead_import
      && (energy_in_range p.real_time_export && (energy_in_range p.real_time_import
      && price_in_range p.imbalance_price)))))));
  listed = λ heading p. nat_le p.interconnection heading.interconnections
      && (nat_le p.node heading.nodes && nat_le p.hour heading.hours);
  room = interconnection_room;
}

abbrev pub reserve_terms : Terms Reserve
reserve_terms = record {
  alike = λ p q. (p.account == q.account) && (p.unit == q.unit && (p.kind == q.kind && p.hour == q.hour));
  in_range = λ p. nat_le 1 p.account && (unit_in_range p.unit && (kind_in_range p.kind && (nat_le 1 p.hour
      && (reserve_price_in_range p.day_ahead_price && (energy_in_range p.day_ahead
      && (reserve_price_in_range p.real_time_price && energy_in_range p.real_time))))));
  listed = λ heading p. nat_le p.account heading.accounts && nat_le p.hour heading.hours;
  room = reserve_room;
}

abbrev pub failure_terms : Terms Failure
failure_terms = record {
  alike = λ p q. (p.unit == q.unit) && (p.kind == q.kind);
  in_range = λ p. unit_in_range p.unit && kind_in_range p.kind;
  listed = λ _ _. true;
  room = failure_room;
}

abbrev pub fine_terms : Terms Fine
fine_terms = record {
  alike = λ p q. (p.identifier == q.identifier);
  in_range = λ p. nat_le 1 p.account && fine_in_range p.centavos;
  listed = λ heading p. nat_le p.account heading.accounts;
  room = fine_room;
}
