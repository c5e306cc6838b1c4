pub mod Hmac
pub mod Standing
