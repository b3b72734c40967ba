mod Spelling
mod Cutting
mod Decimal
mod Penalties
mod Listing
mod Saying
